-- The carries of the first queues, one by one.
use Rattle.std.proofs.Common.{◌≡◌, ◌<◌, ◌+◌, ◌∙◌, ℕ, zero, suc, List, [], ◌∷◌, ◌++◌, take, length, sym, ap, subst, arith, add-one, append-nil, append_assoc, option_to_list, slice_index_or}
use Rattle.std.specs.List.{AllByRecursion}
use Rattle.qq_base.specs.declared.ids.QueueId.{QueueId}
use Rattle.qq_base.proofs.Lists.{AllByRecursion-append}
use Rattle.qq_log.specs.declared.lane.Carry.{Carry}
use Rattle.qq_wal_chain.specs.Lanes.{Lanes}
use Rattle.qq_wal.specs.Marks.{IsCarry, carries_of, carry_in}

module _ (lanes : Lanes) where
  one-more : (queues : List QueueId) (k : ℕ) (d : QueueId) → k < length queues
      → carries_of (take (suc k) queues) lanes
      ≡ carries_of (take k queues) lanes ++ option_to_list (carry_in lanes (slice_index_or queues k d))
  one-more [] k d h = absurd (omega arith)
  one-more (q ∷ queues) zero d h = append-nil (option_to_list (carry_in lanes q))
  one-more (q ∷ queues) (suc k) d h =
      ap (λ (l : List Carry). option_to_list (carry_in lanes q) ++ l) (one-more queues k d (omega arith))
      ∙ sym (append_assoc (option_to_list (carry_in lanes q)) (carries_of (take k queues) lanes)
      (option_to_list (carry_in lanes (slice_index_or queues k d))))

  pub carries-more : (queues : List QueueId) (k : ℕ) (d : QueueId) (old new : List Carry) → k < length queues
      → old ≡ carries_of (take k queues) lanes
      → new ≡ old ++ option_to_list (carry_in lanes (slice_index_or queues k d))
      → new ≡ carries_of (take (k + 1) queues) lanes
  carries-more queues k d old new h was is =
      is
      ∙ ap (λ (l : List Carry). l ++ option_to_list (carry_in lanes (slice_index_or queues k d))) was
      ∙ sym (one-more queues k d h)
      ∙ ap (λ (n : ℕ). carries_of (take n queues) lanes) (sym (add-one k))

  pub each-more : (queues : List QueueId) (k : ℕ) (d : QueueId) → k < length queues
      → AllByRecursion IsCarry (carries_of (take k queues) lanes)
      → AllByRecursion IsCarry (option_to_list (carry_in lanes (slice_index_or queues k d)))
      → AllByRecursion IsCarry (carries_of (take (k + 1) queues) lanes)
  each-more queues k d h was one =
      subst (λ (l : List Carry). AllByRecursion IsCarry l)
      (sym (one-more queues k d h) ∙ ap (λ (n : ℕ). carries_of (take n queues) lanes) (sym (add-one k)))
      (AllByRecursion-append IsCarry (carries_of (take k queues) lanes)
      (option_to_list (carry_in lanes (slice_index_or queues k d))) was one)
