-- What comes to a consumer is its own affair: those beside it stay as they are.
use Rattle.std.proofs.Common.{◌≡◌, ℕ, zero, suc, Bool, true, false, cond, List, [], ◌∷◌, ◌++◌, length, Option, Some, None, replicate, refl, sym, ap, ◌∙◌, subst, append_assoc}
use Rattle.std.specs.Prelude.{is_some, unwrap_or}
use Rattle.std.specs.List.{AllByRecursion}
use Rattle.std.specs.Option.{option_map, option_map_or}
use Rattle.std.proofs.lemmas.Bool.{cond-true, cond-false, cond_both}
use Rattle.qq_base.specs.Ids.{same_consumer}
use Rattle.qq_base.specs.declared.ids.ConsumerId.{ConsumerId}
use Rattle.qq_base.specs.declared.ids.SessionId.{SessionId}
use Rattle.qq_entry.specs.declared.answer.Delivery.{Delivery}
use Rattle.qq_entry.specs.declared.command.Unstamped.{Unstamped}
use Rattle.qq_entry.specs.declared.command.Unstamped.TheVariants.{Enqueue, Get, Subscribe, Cancel, Credit, Settle, Return, Discard, Purge}
use Rattle.qq_model.proofs.OneConsumer.{same_consumer-true}
use Rattle.qq_consuming.specs.Consuming.{Received, arrive, hand_out_by, has_arrived, insert_delivery, new_consumer, next_delivery}
use Rattle.qq_consuming.specs.Arrivals.{Deed, Arrives, Asks, after_deed, after_deeds, arrivals, arrived_by, handed, handed_by}
use Rattle.qq_consuming.specs.Consumers.{change_at, come, come_by, coming, consumer_at, is_at, know, know_by, received, taken, taken_by}

-- ---- one consumer

hand-keeps : (o : Option Delivery) (r : Received) → (hand_out_by o r).consumer ≡ r.consumer
hand-keeps None r = refl
hand-keeps (Some d) r = refl

deed-keeps : (deed : Deed) (r : Received) → (after_deed deed r).consumer ≡ r.consumer
deed-keeps (Arrives d) r =
    cond_both (has_arrived d.id r) r (record r { waiting = insert_delivery d r.waiting })
    (λ (x : Received). x.consumer ≡ r.consumer) (λ _. refl) (λ _. refl)
deed-keeps Asks r = hand-keeps (next_delivery r) r

pub deeds-keep : (deeds : List Deed) (r : Received) → (after_deeds deeds r).consumer ≡ r.consumer
deeds-keep [] r = refl
deeds-keep (deed ∷ deeds) r = deeds-keep deeds (after_deed deed r) ∙ deed-keeps deed r

asks-bring : (n : ℕ) → arrivals (replicate n Asks) ≡ []
asks-bring zero = refl
asks-bring (suc n) = asks-bring n

-- one delivery arrives
pub coming-brings : (d : Delivery) (r : Received) → arrivals (coming d r) ≡ d ∷ []
coming-brings d r = ap (λ (ds : List Delivery). d ∷ ds) (asks-bring (length (arrive d r).waiting))

pub after-append : (first second : List Deed) (r : Received)
    → after_deeds (first ++ second) r ≡ after_deeds second (after_deeds first r)
after-append [] second r = refl
after-append (deed ∷ first) second r = after-append first second (after_deed deed r)

pub handed-append : (first second : List Deed) (r : Received)
    → handed r (first ++ second) ≡ handed r first ++ handed (after_deeds first r) second
handed-append [] second r = refl
handed-append (deed ∷ first) second r =
    ap (λ (ds : List Delivery). handed_by deed r ++ ds) (handed-append first second (after_deed deed r))
    ∙ sym (append_assoc (handed_by deed r) (handed (after_deed deed r) first)
    (handed (after_deeds first (after_deed deed r)) second))

pub arrivals-append : (first second : List Deed) → arrivals (first ++ second) ≡ arrivals first ++ arrivals second
arrivals-append [] second = refl
arrivals-append (deed ∷ first) second =
    ap (λ (ds : List Delivery). arrived_by deed ++ ds) (arrivals-append first second)
    ∙ sym (append_assoc (arrived_by deed) (arrivals first) (arrivals second))

-- ---- one of several

-- a change that keeps the id
abbrev pub Keeps : (Received → Received) → Type 0
Keeps change = (r : Received) → (change r).consumer ≡ r.consumer

change-own : (id : ConsumerId) (change : Received → Received) → Keeps change → (all : List Received)
    → received id (change_at id change all) ≡ option_map change (received id all)
change-own id change keeps [] = refl
change-own id change keeps (r ∷ more) = by (is_at id r) refl (change-own id change keeps more)
  where
    by : (b : Bool) → is_at id r ≡ b → received id (change_at id change more) ≡ option_map change (received id more)
        → received id (cond b (change r ∷ more) (r ∷ change_at id change more))
        ≡ option_map change (cond b (Some r) (received id more))
    by true here rest =
        cond-true (is_at id (change r)) (Some (change r)) (received id more)
        (ap (λ (c : ConsumerId). same_consumer c id) (keeps r) ∙ here)
    by false other rest = cond-false (is_at id r) (Some r) (received id (change_at id change more)) other ∙ rest

change-other : (id own : ConsumerId) (change : Received → Received) → Keeps change → same_consumer own id ≡ false
    → (all : List Received) → received id (change_at own change all) ≡ received id all
change-other id own change keeps apart [] = refl
change-other id own change keeps apart (r ∷ more) =
    by (is_at own r) refl (change-other id own change keeps apart more)
  where
    by : (b : Bool) → is_at own r ≡ b → received id (change_at own change more) ≡ received id more
        → received id (cond b (change r ∷ more) (r ∷ change_at own change more)) ≡ received id (r ∷ more)
    by true here rest =
        let is : is_at id r ≡ false =
        ap (λ (c : ConsumerId). same_consumer c id) (same_consumer-true r.consumer own here) ∙ apart in
        cond-false (is_at id (change r)) (Some (change r)) (received id more)
        (ap (λ (c : ConsumerId). same_consumer c id) (keeps r) ∙ is)
        ∙ sym (cond-false (is_at id r) (Some r) (received id more) is)
    by false other rest = ap (λ (o : Option Received). cond (is_at id r) (Some r) o) rest

-- what a delivery to one consumer does at another
abbrev pub deeds_at : ConsumerId → ConsumerId → Delivery → List Received → List Deed
deeds_at id own d all = cond (same_consumer own id) (option_map_or (coming d) (received id all) []) []

pub come-keeps : (d : Delivery) → Keeps (come_by d)
come-keeps d r = deeds-keep (coming d r) r

pub come-at : (id own : ConsumerId) (d : Delivery) (all : List Received)
    → consumer_at id (come own d all) ≡ after_deeds (deeds_at id own d all) (consumer_at id all)
come-at id own d all = by (same_consumer own id) refl
  where
    found : (o : Option Received)
        → unwrap_or (option_map (come_by d) o) (new_consumer id)
        ≡ after_deeds (option_map_or (coming d) o []) (unwrap_or o (new_consumer id))
    found None = refl
    found (Some r) = refl

    by : (b : Bool) → same_consumer own id ≡ b
        → consumer_at id (come own d all)
        ≡ after_deeds (cond b (option_map_or (coming d) (received id all) []) []) (consumer_at id all)
    by true same =
        ap (λ (o : Option Received). unwrap_or o (new_consumer id))
        (subst (λ (c : ConsumerId). received id (change_at c (come_by d) all) ≡ option_map (come_by d) (received id all))
        (sym (same_consumer-true own id same)) (change-own id (come_by d) (come-keeps d) all)) ∙ found (received id all)
    by false apart =
        ap (λ (o : Option Received). unwrap_or o (new_consumer id))
        (change-other id own (come_by d) (come-keeps d) apart all)

-- it is handed what follows of that
pub taken-at : (id own : ConsumerId) (d : Delivery) (all : List Received)
    → cond (same_consumer own id) (taken own d all) [] ≡ handed (consumer_at id all) (deeds_at id own d all)
taken-at id own d all = by (same_consumer own id) refl
  where
    found : (o : Option Received)
        → option_map_or (taken_by d) o [] ≡ handed (unwrap_or o (new_consumer id)) (option_map_or (coming d) o [])
    found None = refl
    found (Some r) = refl

    by : (b : Bool) → same_consumer own id ≡ b
        → cond b (taken own d all) []
        ≡ handed (consumer_at id all) (cond b (option_map_or (coming d) (received id all) []) [])
    by true same =
        ap (λ (c : ConsumerId). taken c d all) (same_consumer-true own id same) ∙ found (received id all)
    by false apart = refl

pub arrives-at : (P : Delivery → Type 0) (id own : ConsumerId) (d : Delivery) (all : List Received)
    → (same_consumer own id ≡ true → P d) → AllByRecursion P (arrivals (deeds_at id own d all))
arrives-at P id own d all is = by (same_consumer own id) refl
  where
    found : (o : Option Received) → P d → AllByRecursion P (arrivals (option_map_or (coming d) o []))
    found None here = tt
    found (Some r) here = subst (AllByRecursion P) (sym (coming-brings d r)) (here, tt)

    by : (b : Bool) → same_consumer own id ≡ b
        → AllByRecursion P (arrivals (cond b (option_map_or (coming d) (received id all) []) []))
    by true same = found (received id all) (is same)
    by false apart = tt

-- ---- one more

received-more : (id : ConsumerId) (all : List Received) (new : Received)
    → consumer_at id (all ++ new ∷ [])
    ≡ unwrap_or (received id all) (cond (is_at id new) new (new_consumer id))
received-more id [] new = by (is_at id new)
  where
    by : (b : Bool) → unwrap_or (cond b (Some new) None) (new_consumer id) ≡ cond b new (new_consumer id)
    by true = refl
    by false = refl
received-more id (r ∷ more) new = by (is_at id r) (received-more id more new)
  where
    by : (b : Bool) → consumer_at id (more ++ new ∷ [])
        ≡ unwrap_or (received id more) (cond (is_at id new) new (new_consumer id))
        → unwrap_or (cond b (Some r) (received id (more ++ new ∷ []))) (new_consumer id)
        ≡ unwrap_or (cond b (Some r) (received id more)) (cond (is_at id new) new (new_consumer id))
    by true rest = refl
    by false rest = rest

-- a consumer that is new at its client is as it was
pub know-at : (id own : ConsumerId) (all : List Received) → consumer_at id (know own all) ≡ consumer_at id all
know-at id own all =
    cond_both (is_some (received own all)) all (all ++ new_consumer own ∷ [])
    (λ (l : List Received). consumer_at id l ≡ consumer_at id all) (λ _. refl)
    (λ _. received-more id all (new_consumer own)
    ∙ ap (λ (r : Received). unwrap_or (received id all) r) (by (same_consumer own id) refl))
  where
    by : (b : Bool) → same_consumer own id ≡ b
        → cond b (new_consumer own) (new_consumer id) ≡ new_consumer id
    by true same = ap new_consumer (same_consumer-true own id same)
    by false apart = refl

pub know_by-at : (id : ConsumerId) (session : SessionId) (body : Unstamped) (all : List Received)
    → consumer_at id (know_by session body all) ≡ consumer_at id all
know_by-at id session (Subscribe tag mode) all = know-at id (record { session = session; tag = tag }) all
know_by-at id session (Enqueue origin message) all = refl
know_by-at id session Get all = refl
know_by-at id session (Cancel tag) all = refl
know_by-at id session (Credit tag count credit drain) all = refl
know_by-at id session (Settle tag ids) all = refl
know_by-at id session (Return tag ids) all = refl
know_by-at id session (Discard tag ids) all = refl
know_by-at id session Purge all = refl
