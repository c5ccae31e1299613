-- The walk over files: it goes back from file to file, and depends on no newer one.
use Rattle.std.proofs.Common.{◌≡◌, ◌≤◌, ◌<◌, ℕ, zero, suc, Bool, true, false, cond, eqb, ltb, ◌&&◌, List, [], ◌∷◌, Option, Some, None, refl, sym, ap, ap₂, ◌∙◌, arith, inl, inr, ◌⊎◌, option_map}
use Rattle.std.specs.List.{AllByRecursion}
use Rattle.std.proofs.lemmas.Bool.{cases_lt, cases_eq, eq-eqb, ne_eqb, ltb-true, lt-ltb, and_parts, and_from}
use Rattle.qq_wal_chain.specs.Format.{Format}
use Rattle.qq_wal_chain.specs.Records.{end_of, replay}
use Rattle.qq_wal_chain.specs.Chain.{Logs, Found, has_header, newest, counts, records_up_to, add_file, read_on, read_file, chain}
use Rattle.qq_wal_chain.specs.Image.{put}

-- ---- another file under a number

pub put-at : {A : Type 0} (f : ℕ → A) (n : ℕ) (a : A) → put f n a n ≡ a
put-at {A} f n a = ap (λ (b : Bool). cond b a (f n)) (eq-eqb n n refl)

pub put-other : {A : Type 0} (f : ℕ → A) (n m : ℕ) (a : A) → (n ≡ m → ⊥) → put f n a m ≡ f m
put-other {A} f n m a apart = ap (λ (b : Bool). cond b a (f m)) (ne_eqb n m apart)

either-way : {A : Type 0} (t : Bool) (a : A) → cond t a a ≡ a
either-way true a = refl
either-way false a = refl

module _ (F : Format) where
  abbrev pub nothing : Option (Found F)
  nothing = Some (record { files = []; world = F.start })

  -- ---- the newest file

  newest-by : (b : ℕ) (rest : ℕ) (o : Option (List ℕ)) (t : Bool) → has_header F o ≡ t
      → cond (has_header F o) (suc b) rest ≡ cond t (suc b) rest
  newest-by b rest o t e = ap (λ (t : Bool). cond t (suc b) rest) e

  pub newest-same : (b : ℕ) (L K : Logs)
      → ((m : ℕ) → m ≤ b → has_header F (L m) ≡ has_header F (K m)) → newest F b L ≡ newest F b K
  newest-same zero L K same = refl
  newest-same (suc b) L K same =
      ap₂ (λ (t : Bool) (rest : ℕ). cond t (suc b) rest) (same (suc b) (omega arith))
      (newest-same b L K (λ m h. same m (omega arith)))

  pub newest-within : (b : ℕ) (L : Logs) → newest F b L ≤ b
  newest-within zero L = omega arith
  newest-within (suc b) L = by (has_header F (L (suc b))) (newest-within b L)
    where
      by : (t : Bool) → newest F b L ≤ b → cond t (suc b) (newest F b L) ≤ suc b
      by true h = omega arith
      by false h = omega arith

  -- no file above it has a whole header
  pub newest-above : (b : ℕ) (L : Logs) (m : ℕ) → newest F b L < m → m ≤ b → has_header F (L m) ≡ false
  newest-above zero L m h k = absurd (omega arith)
  newest-above (suc b) L m h k = by (has_header F (L (suc b))) refl h (newest-above b L m) (cases_eq m (suc b))
    where
      by : (t : Bool) → has_header F (L (suc b)) ≡ t → cond t (suc b) (newest F b L) < m
          → (newest F b L < m → m ≤ b → has_header F (L m) ≡ false) → (m ≡ suc b) ⊎ (m ≡ suc b → ⊥)
          → has_header F (L m) ≡ false
      by true e h below c = absurd (omega arith)
      by false e h below (inl same) = ap (λ (m : ℕ). has_header F (L m)) same ∙ e
      by false e h below (inr apart) = below h (below-bound (cases_lt m (suc b)))
        where
          below-bound : (m < suc b) ⊎ (suc b ≤ m) → m ≤ b
          below-bound (inl less) = omega arith
          below-bound (inr most) = absurd (apart (omega arith))

  -- the one above which none has a whole header
  pub newest-is : (b : ℕ) (L : Logs) (n : ℕ) → n ≤ b → 0 < n → has_header F (L n) ≡ true
      → ((m : ℕ) → n < m → m ≤ b → has_header F (L m) ≡ false) → newest F b L ≡ n
  newest-is zero L n h p here above = absurd (omega arith)
  newest-is (suc b) L n h p here above = by (cases_eq n (suc b))
      (λ k. newest-is b L n k p here (λ m less most. above m less (omega arith)))
    where
      by : (n ≡ suc b) ⊎ (n ≡ suc b → ⊥) → (n ≤ b → newest F b L ≡ n)
          → cond (has_header F (L (suc b))) (suc b) (newest F b L) ≡ n
      by (inl same) below =
          ap (λ (t : Bool). cond t (suc b) (newest F b L)) (ap (λ (m : ℕ). has_header F (L m)) (sym same) ∙ here)
          ∙ sym same
      by (inr apart) below = lower (cases_lt n (suc b))
        where
          lower : (n < suc b) ⊎ (suc b ≤ n) → cond (has_header F (L (suc b))) (suc b) (newest F b L) ≡ n
          lower (inl less) =
              ap (λ (t : Bool). cond t (suc b) (newest F b L)) (above (suc b) less (omega arith))
              ∙ below (omega arith)
          lower (inr most) = absurd (apart (omega arith))

  -- and it has one, or is none
  pub newest-has : (b : ℕ) (L : Logs) → 0 < newest F b L → has_header F (L (newest F b L)) ≡ true
  newest-has zero L p = absurd (omega arith)
  newest-has (suc b) L p = by (has_header F (L (suc b))) refl (newest-has b L) p
    where
      by : (t : Bool) → has_header F (L (suc b)) ≡ t
          → (0 < newest F b L → has_header F (L (newest F b L)) ≡ true)
          → 0 < cond t (suc b) (newest F b L) → has_header F (L (cond t (suc b) (newest F b L))) ≡ true
      by true e below p = e
      by false e below p = below p

  -- ---- the chain

  counts-back : (n good : ℕ) (bytes : List ℕ) (h : F.Header) → counts F n good bytes h ≡ true → F.previous h < n
  counts-back n good bytes h e =
      ltb-true (F.previous h) n
      (and_parts (ltb (F.previous h) n) (eqb (end_of F n (records_up_to F n good bytes)) good)
      (and_parts (eqb (F.number h) n) (ltb (F.previous h) n && eqb (end_of F n (records_up_to F n good bytes)) good)
      e).1).0

  -- what a file comes to depends on older ones alone
  read_on-same : (older other : ℕ → ℕ → Option (Found F)) (n good : ℕ) (bytes : List ℕ) (o : Option F.Header)
      → ((p g : ℕ) → p < n → older p g ≡ other p g)
      → read_on F older n good bytes o ≡ read_on F other n good bytes o
  read_on-same older other n good bytes None same = refl
  read_on-same older other n good bytes (Some h) same = by (counts F n good bytes h) refl
    where
      by : (t : Bool) → counts F n good bytes h ≡ t
          → cond t (add_file F n (records_up_to F n good bytes) (older (F.previous h) (F.good h))) None
          ≡ cond t (add_file F n (records_up_to F n good bytes) (other (F.previous h) (F.good h))) None
      by true e = ap (λ (f : Option (Found F)). add_file F n (records_up_to F n good bytes) f)
          (same (F.previous h) (F.good h) (counts-back n good bytes h e))
      by false e = refl

  read_file-same : (older other : ℕ → ℕ → Option (Found F)) (n good : ℕ) (o : Option (List ℕ))
      → ((p g : ℕ) → p < n → older p g ≡ other p g)
      → read_file F older n good o ≡ read_file F other n good o
  read_file-same older other n good None same = refl
  read_file-same older other n good (Some bytes) same =
      read_on-same older other n good bytes (F.read_header bytes) same

  pub chain-none : (b : ℕ) (L : Logs) (good : ℕ) → chain F b L 0 good ≡ nothing
  chain-none zero L good = refl
  chain-none (suc b) L good =
      ap (λ (t : Bool). cond t (read_file F (chain F b L) 0 good (L 0)) (chain F b L 0 good))
      (ne_eqb 0 (suc b) (λ e. absurd (omega arith))) ∙ chain-none b L good

  -- the chain depends on files up to its newest
  pub chain-same : (b : ℕ) (L K : Logs) (n good : ℕ) → ((m : ℕ) → m ≤ n → L m ≡ K m)
      → chain F b L n good ≡ chain F b K n good
  chain-same zero L K n good same = refl
  chain-same (suc b) L K n good same = by (eqb n (suc b)) (chain-same b L K n good same)
      (read_file-same (chain F b L) (chain F b K) n good (L n)
      (λ p g less. chain-same b L K p g (λ m h. same m (omega arith))))
    where
      by : (t : Bool) → chain F b L n good ≡ chain F b K n good
          → read_file F (chain F b L) n good (L n) ≡ read_file F (chain F b K) n good (L n)
          → cond t (read_file F (chain F b L) n good (L n)) (chain F b L n good)
          ≡ cond t (read_file F (chain F b K) n good (K n)) (chain F b K n good)
      by true below here = here ∙ ap (λ (o : Option (List ℕ)). read_file F (chain F b K) n good o)
          (same n (omega arith))
      by false below here = below

  -- under any bound the chain begins with its newest file
  pub chain-at : (b : ℕ) (L : Logs) (m good : ℕ) → suc m ≤ b
      → chain F b L (suc m) good ≡ read_file F (chain F m L) (suc m) good (L (suc m))
  chain-at zero L m good h = absurd (omega arith)
  chain-at (suc b) L m good h = by (cases_eq m b) (chain-at b L m good)
    where
      by : (m ≡ b) ⊎ (m ≡ b → ⊥)
          → (suc m ≤ b → chain F b L (suc m) good ≡ read_file F (chain F m L) (suc m) good (L (suc m)))
          → cond (eqb (suc m) (suc b)) (read_file F (chain F b L) (suc m) good (L (suc m))) (chain F b L (suc m) good)
          ≡ read_file F (chain F m L) (suc m) good (L (suc m))
      by (inl same) below =
          ap (λ (t : Bool). cond t (read_file F (chain F b L) (suc m) good (L (suc m))) (chain F b L (suc m) good))
          (eq-eqb (suc m) (suc b) (omega arith))
          ∙ ap (λ (k : ℕ). read_file F (chain F k L) (suc m) good (L (suc m))) (sym same)
      by (inr apart) below =
          ap (λ (t : Bool). cond t (read_file F (chain F b L) (suc m) good (L (suc m))) (chain F b L (suc m) good))
          (ne_eqb (suc m) (suc b) (λ e. apart (omega arith)))
          ∙ below (under (cases_lt m b))
        where
          under : (m < b) ⊎ (b ≤ m) → suc m ≤ b
          under (inl less) = less
          under (inr most) = absurd (apart (omega arith))

  -- the bound plays no part
  pub chain-bound : (b c : ℕ) (L : Logs) (n good : ℕ) → n ≤ b → n ≤ c → chain F b L n good ≡ chain F c L n good
  chain-bound b c L zero good hb hc = chain-none b L good ∙ sym (chain-none c L good)
  chain-bound b c L (suc m) good hb hc = chain-at b L m good hb ∙ sym (chain-at c L m good hc)

  -- a file that counts, and the chain from its previous one back
  pub chain-onto : (b : ℕ) (L : Logs) (n good : ℕ) (bytes : List ℕ) (h : F.Header) → 0 < n → n ≤ b
      → L n ≡ Some bytes → F.read_header bytes ≡ Some h → counts F n good bytes h ≡ true
      → chain F b L n good
      ≡ add_file F n (records_up_to F n good bytes) (chain F b L (F.previous h) (F.good h))
  chain-onto b L zero good bytes h p hb here head ok = absurd (omega arith)
  chain-onto b L (suc m) good bytes h p hb here head ok =
      let back = counts-back (suc m) good bytes h ok in
      chain-at b L m good hb
      ∙ ap (λ (o : Option (List ℕ)). read_file F (chain F m L) (suc m) good o) here
      ∙ ap (λ (o : Option F.Header). read_on F (chain F m L) (suc m) good bytes o) head
      ∙ ap (λ (t : Bool). cond t (add_file F (suc m) (records_up_to F (suc m) good bytes)
      (chain F m L (F.previous h) (F.good h))) None) ok
      ∙ ap (λ (f : Option (Found F)). add_file F (suc m) (records_up_to F (suc m) good bytes) f)
      (chain-bound m b L (F.previous h) (F.good h) (omega arith) (omega arith))

  -- nothing stands behind an absent file
  pub chain-absent : (b : ℕ) (L : Logs) (n good : ℕ) → 0 < n → n ≤ b → L n ≡ None → chain F b L n good ≡ nothing
  chain-absent b L zero good p hb here = absurd (omega arith)
  chain-absent b L (suc m) good p hb here =
      chain-at b L m good hb ∙ ap (λ (o : Option (List ℕ)). read_file F (chain F m L) (suc m) good o) here

  -- a file without a whole header, or one that doesn't count, is damaged
  pub chain-headless : (b : ℕ) (L : Logs) (n good : ℕ) (bytes : List ℕ) → 0 < n → n ≤ b → L n ≡ Some bytes
      → F.read_header bytes ≡ None → chain F b L n good ≡ None
  chain-headless b L zero good bytes p hb here head = absurd (omega arith)
  chain-headless b L (suc m) good bytes p hb here head =
      chain-at b L m good hb
      ∙ ap (λ (o : Option (List ℕ)). read_file F (chain F m L) (suc m) good o) here
      ∙ ap (λ (o : Option F.Header). read_on F (chain F m L) (suc m) good bytes o) head

  pub chain-uncounted : (b : ℕ) (L : Logs) (n good : ℕ) (bytes : List ℕ) (h : F.Header) → 0 < n → n ≤ b
      → L n ≡ Some bytes → F.read_header bytes ≡ Some h → counts F n good bytes h ≡ false → chain F b L n good ≡ None
  chain-uncounted b L zero good bytes h p hb here head bad = absurd (omega arith)
  chain-uncounted b L (suc m) good bytes h p hb here head bad =
      chain-at b L m good hb
      ∙ ap (λ (o : Option (List ℕ)). read_file F (chain F m L) (suc m) good o) here
      ∙ ap (λ (o : Option F.Header). read_on F (chain F m L) (suc m) good bytes o) head
      ∙ ap (λ (t : Bool). cond t (add_file F (suc m) (records_up_to F (suc m) good bytes)
      (chain F m L (F.previous h) (F.good h))) None) bad

  pub counts-from : (n good : ℕ) (bytes : List ℕ) (h : F.Header) → F.number h ≡ n → F.previous h < n
      → end_of F n (records_up_to F n good bytes) ≡ good → counts F n good bytes h ≡ true
  counts-from n good bytes h number back ends =
      and_from (eqb (F.number h) n) (ltb (F.previous h) n && eqb (end_of F n (records_up_to F n good bytes)) good)
      (eq-eqb (F.number h) n number)
      (and_from (ltb (F.previous h) n) (eqb (end_of F n (records_up_to F n good bytes)) good)
      (lt-ltb (F.previous h) n back) (eq-eqb (end_of F n (records_up_to F n good bytes)) good ends))

  -- ---- a file that isn't passed can go

  abbrev pub Misses : ℕ → Option (Found F) → Type 0
  Misses m None = ⊥
  Misses m (Some found) = AllByRecursion (λ (k : ℕ). eqb m k ≡ false) found.files

  misses-older : (m n : ℕ) (rs : List F.Record) (o : Option (Found F)) → Misses m (add_file F n rs o)
      → Misses m o × (eqb m n ≡ false)
  misses-older m n rs None h = absurd h
  misses-older m n rs (Some found) h = by (replay F rs (Some found.world)) h
    where
      by : (w : Option F.World)
          → Misses m (option_map (λ (world : F.World). record { files = n ∷ found.files; world = world }) w)
          → Misses m (Some found) × (eqb m n ≡ false)
      by None h = absurd h
      by (Some w) h = (h.1, h.0)

  without-counted : (older other : Option (Found F)) (m n : ℕ) (rs : List F.Record) (t : Bool)
      → (Misses m older → other ≡ older) → Misses m (cond t (add_file F n rs older) None)
      → (cond t (add_file F n rs other) None ≡ cond t (add_file F n rs older) None) × (eqb m n ≡ false)
  without-counted older other m n rs true same h =
      let both = misses-older m n rs older h in
      (ap (λ (f : Option (Found F)). add_file F n rs f) (same both.0), both.1)
  without-counted older other m n rs false same h = absurd h

  without-on : (older other : ℕ → ℕ → Option (Found F)) (m n good : ℕ) (bytes : List ℕ) (o : Option F.Header)
      → ((p g : ℕ) → Misses m (older p g) → other p g ≡ older p g) → Misses m (read_on F older n good bytes o)
      → (read_on F other n good bytes o ≡ read_on F older n good bytes o) × (eqb m n ≡ false)
  without-on older other m n good bytes None same h = absurd h
  without-on older other m n good bytes (Some head) same h =
      without-counted (older (F.previous head) (F.good head)) (other (F.previous head) (F.good head)) m n
      (records_up_to F n good bytes) (counts F n good bytes head) (same (F.previous head) (F.good head)) h

  without-file : (older other : ℕ → ℕ → Option (Found F)) (m n good : ℕ) (o : Option (List ℕ))
      → ((p g : ℕ) → Misses m (older p g) → other p g ≡ older p g) → Misses m (read_file F older n good o)
      → read_file F other n good (cond (eqb m n) None o) ≡ read_file F older n good o
  without-file older other m n good None same h =
      ap (λ (o : Option (List ℕ)). read_file F other n good o) (either-way (eqb m n) None)
  without-file older other m n good (Some bytes) same h =
      let both = without-on older other m n good bytes (F.read_header bytes) same h in
      ap (λ (t : Bool). read_file F other n good (cond t None (Some bytes))) both.1 ∙ both.0

  pub chain-without : (b : ℕ) (L : Logs) (m n good : ℕ) → Misses m (chain F b L n good)
      → chain F b (put L m None) n good ≡ chain F b L n good
  chain-without zero L m n good h = refl
  chain-without (suc b) L m n good h = by (eqb n (suc b)) h (chain-without b L m n good)
      (without-file (chain F b L) (chain F b (put L m None)) m n good (L n) (λ p g h. chain-without b L m p g h))
    where
      by : (t : Bool) → Misses m (cond t (read_file F (chain F b L) n good (L n)) (chain F b L n good))
          → (Misses m (chain F b L n good) → chain F b (put L m None) n good ≡ chain F b L n good)
          → (Misses m (read_file F (chain F b L) n good (L n))
          → read_file F (chain F b (put L m None)) n good (put L m None n) ≡ read_file F (chain F b L) n good (L n))
          → cond t (read_file F (chain F b (put L m None)) n good (put L m None n)) (chain F b (put L m None) n good)
          ≡ cond t (read_file F (chain F b L) n good (L n)) (chain F b L n good)
      by true h below here = here h
      by false h below here = below h
