-- The consumers of one id: at most one at a time.
use Rattle.std.proofs.Common.{◌≡◌, ℕ, ◌+◌, Bool, true, false, cond, List, [], ◌∷◌, map, refl, sym, ap, ◌∙◌, subst, inl, inr, if◌then◌else◌}
use Rattle.std.specs.Prelude.{nat_eq, filter}
use Rattle.std.proofs.lemmas.Bool.{cases_Bool, cond-true, cond-false, and_parts, and_from, eqb-true, eq-eqb}
use Rattle.qq_base.specs.declared.ids.SessionId.{SessionId}
use Rattle.qq_base.specs.declared.ids.ConsumerId.{ConsumerId}
use Rattle.qq_model.specs.declared.consumer.Consumer.{Consumer}
use Rattle.qq_model.specs.State.{Sessions}
use Rattle.qq_base.specs.Ids.{same_session, same_consumer}
use Rattle.qq_model.specs.Changes.{put_consumer}
use Rattle.qq_base.proofs.Lists.{In, In-filter, filter-map, filter-swap}
use Rattle.qq_model.proofs.Later.{Guarded, Later, Used}
use Rattle.qq_model.proofs.SessionLemmas.{same_session-refl, same_session-true}

pub same_consumer-true : (a b : ConsumerId) → same_consumer a b ≡ true → a ≡ b
same_consumer-true a b same =
    let parts = and_parts (same_session a.session b.session) (nat_eq a.tag b.tag) same in
    ap (λ (s : SessionId). let made : ConsumerId = record { session = s; tag = a.tag } in made)
    (same_session-true a.session b.session parts.0)
    ∙ ap (λ (n : ℕ). let made : ConsumerId = record { session = b.session; tag = n } in made)
    (eqb-true a.tag b.tag parts.1)

pub same_consumer-refl : (a : ConsumerId) → same_consumer a a ≡ true
same_consumer-refl a = and_from _ _ (same_session-refl a.session) (eq-eqb a.tag a.tag refl)

abbrev pub consumers_with : ConsumerId → List Consumer → List Consumer
consumers_with id consumers = filter (λ (consumer : Consumer). same_consumer consumer.id id) consumers

-- a change of the consumers of an id
abbrev replace : Consumer → Consumer → Consumer
replace new consumer = if same_consumer consumer.id new.id then new else consumer

consumers-with : (id : ConsumerId) (new : Consumer) (consumers : List Consumer)
    → consumers_with id (put_consumer new consumers) ≡ map (replace new) (consumers_with id consumers)
consumers-with id new consumers =
    filter-map (λ (one : Consumer). same_consumer one.id id) (replace new) consumers
    (λ one. elim (cases_Bool (same_consumer one.id new.id)) [
      | inl same ↦
          ap (λ (c : Consumer). same_consumer c.id id) (cond-true (same_consumer one.id new.id) new one same)
          ∙ ap (λ (i : ConsumerId). same_consumer i id) (sym (same_consumer-true one.id new.id same))
      | inr other ↦
          ap (λ (c : Consumer). same_consumer c.id id) (cond-false (same_consumer one.id new.id) new one other)
    ])

-- what is known of the consumer of an id, to which so many deliveries went: it never was, it has left, or it is there
pub data Who (id : ConsumerId) (consumers : List Consumer) (count : ℕ) (s : Sessions) : Type 0 where
  Never : consumers_with id consumers ≡ [] → count ≡ 0 → Who id consumers count s
  Went : consumers_with id consumers ≡ [] → Used s id.session 0 id.tag → Who id consumers count s
  Stays : (one : Consumer) → consumers_with id consumers ≡ one ∷ [] → one.next_id ≡ count + 1
      → Used s id.session 0 id.tag
      → Who id consumers count s

pub who-later : (id : ConsumerId) (consumers : List Consumer) (count : ℕ) (s t : Sessions) → Later id.session s t
    → Guarded s → Who id consumers count s → Who id consumers count t
who-later id consumers count s t later g (Never none zero') = Never none zero'
who-later id consumers count s t later g (Went none used) = Went none (later.used 0 id.tag g used)
who-later id consumers count s t later g (Stays one is next used) = Stays one is next (later.used 0 id.tag g used)

-- a consumer of the id is the one
pub who-one : (id : ConsumerId) (consumers : List Consumer) (count : ℕ) (s : Sessions) (consumer : Consumer)
    → In consumer consumers → same_consumer consumer.id id ≡ true → Who id consumers count s
    → (consumers_with id consumers ≡ consumer ∷ []) × (consumer.next_id ≡ count + 1) × Used s id.session 0 id.tag
who-one id consumers count s consumer here is who =
    by (In-filter (λ (one : Consumer). same_consumer one.id id) consumer consumers here is) who
  where
    by : In consumer (consumers_with id consumers) → Who id consumers count s
        → (consumers_with id consumers ≡ consumer ∷ [])
        × (consumer.next_id ≡ count + 1) × Used s id.session 0 id.tag
    by there (Never none zero') = absurd (subst (In consumer) none there)
    by there (Went none used) = absurd (subst (In consumer) none there)
    by there (Stays one only next used) =
        let same : consumer ≡ one = elim (subst (In consumer) only there) [ inl eq ↦ eq | inr no' ↦ absurd no' ] in
        (only ∙ ap (λ (c : Consumer). c ∷ []) (sym same), ap (λ (c : Consumer). c.next_id) same ∙ next, used)

-- the consumers of another id are no others then
pub consumers-other : (id : ConsumerId) (new : Consumer) (consumers : List Consumer) → same_consumer new.id id ≡ false
    → consumers_with id (put_consumer new consumers) ≡ consumers_with id consumers
consumers-other id new [] other = refl
consumers-other id new (one ∷ consumers) other =
    let rest = consumers-other id new consumers other in
    elim (cases_Bool (same_consumer one.id new.id)) [
      | inl same ↦
          let out : same_consumer one.id id ≡ false =
          ap (λ (i : ConsumerId). same_consumer i id) (same_consumer-true one.id new.id same) ∙ other in
          ap (λ (c : Consumer). filter (λ (d : Consumer). same_consumer d.id id) (c ∷ put_consumer new consumers))
          (cond-true (same_consumer one.id new.id) new one same)
          ∙ cond-false (same_consumer new.id id) (new ∷ consumers_with id (put_consumer new consumers))
          (consumers_with id (put_consumer new consumers)) other ∙ rest
          ∙ sym (cond-false (same_consumer one.id id) (one ∷ consumers_with id consumers)
          (consumers_with id consumers)
          out)
      | inr differs ↦
          ap (λ (c : Consumer). filter (λ (d : Consumer). same_consumer d.id id) (c ∷ put_consumer new consumers))
          (cond-false (same_consumer one.id new.id) new one differs)
          ∙ ap (λ (cs : List Consumer). cond (same_consumer one.id id) (one ∷ cs) cs) rest
    ]

-- the consumers of the id, once its consumer is another
pub consumers-new : (id : ConsumerId) (consumer new : Consumer) (consumers : List Consumer)
    → consumers_with id consumers ≡ consumer ∷ [] → new.id ≡ consumer.id
    → consumers_with id (put_consumer new consumers) ≡ new ∷ []
consumers-new id consumer new consumers only same =
    consumers-with id new consumers ∙ ap (map (replace new)) only
    ∙ ap (λ (c : Consumer). c ∷ [])
    (cond-true (same_consumer consumer.id new.id) new consumer
    (ap (λ (i : ConsumerId). same_consumer consumer.id i) same ∙ same_consumer-refl consumer.id))

pub who-at : (id : ConsumerId) (old new : List Consumer) (count : ℕ) (s : Sessions)
    → consumers_with id new ≡ consumers_with id old
    → Who id old count s → Who id new count s
who-at id old new count s same (Never none zero') = Never (same ∙ none) zero'
who-at id old new count s same (Went none used) = Went (same ∙ none) used
who-at id old new count s same (Stays one is next used) = Stays one (same ∙ is) next used

-- a consumer changes, but for its id and its next delivery
pub who-changed : (id : ConsumerId) (consumers : List Consumer) (count : ℕ) (s : Sessions) (consumer new : Consumer)
    → In consumer consumers → new.id ≡ consumer.id → new.next_id ≡ consumer.next_id
    → Who id consumers count s → Who id (put_consumer new consumers) count s
who-changed id consumers count s consumer new here same next who = elim (cases_Bool (same_consumer consumer.id id)) [
  | inl is ↦
      let one = who-one id consumers count s consumer here is who in
      Stays new (consumers-new id consumer new consumers one.0 same) (next ∙ one.1) one.2
  | inr other ↦
      who-at id consumers (put_consumer new consumers) count s
      (consumers-other id new consumers (ap (λ (i : ConsumerId). same_consumer i id) same ∙ other)) who
]

-- some consumers leave
pub who-leave : (id : ConsumerId) (consumers : List Consumer) (count : ℕ) (s : Sessions) (keeps : Consumer → Bool)
    → Who id consumers count s → Who id (filter keeps consumers) count s
who-leave id consumers count s keeps who = by who
  where
    swap : consumers_with id (filter keeps consumers) ≡ filter keeps (consumers_with id consumers)
    swap = filter-swap (λ (one : Consumer). same_consumer one.id id) keeps consumers

    by : Who id consumers count s → Who id (filter keeps consumers) count s
    by (Never none zero') = Never (swap ∙ ap (filter keeps) none) zero'
    by (Went none used) = Went (swap ∙ ap (filter keeps) none) used
    by (Stays one is next used) = elim (cases_Bool (keeps one)) [
      | inl stays ↦ Stays one (swap ∙ ap (filter keeps) is ∙ cond-true (keeps one) (one ∷ []) [] stays) next used
      | inr goes ↦ Went (swap ∙ ap (filter keeps) is ∙ cond-false (keeps one) (one ∷ []) [] goes) used
    ]
