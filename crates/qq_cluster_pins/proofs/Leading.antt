-- Who leads a group.
use Rattle.std.proofs.Common.{◌≡◌, ◌⊎◌, ◌≤◌, ℕ, Bool, true, false, ◌||◌, List, [], ◌∷◌, fold, Option, Some, None, refl, sym, ap, ◌∙◌, subst, inl, inr, arith}
use Rattle.std.specs.Prelude.{nat_eq, nat_lt}
use Rattle.std.proofs.lemmas.Bool.{cases_Bool, cond-true, cond-false, cond_both, eq-eqb, eqb-true, false≢true, ltb-false, ltb-true, or_cases}
use Rattle.qq_base.specs.declared.ids.NodeId.{NodeId}
use Rattle.qq_raft_model.specs.Group.{Group, has_node}
use Rattle.qq_raft_model.specs.Server.{is_ready}
use Rattle.qq_raft_model.specs.State.{Server}
use Rattle.qq_cluster_model.specs.Queue.{Leading, later, latest, leader, leading, node_of}

module _ (g : Group) where
  -- a member that is up and takes commands
  record Takes (k term : ℕ) : Type 0 where
    server : Server
    is : (g.seat k).server ≡ Some server
    ready : is_ready server ≡ true
    term_is : term ≡ server.term.0

  abbrev Of : ℕ → Option Leading
  Of k = leading k (g.seat k).server

  same_some : {A : Type 0} (a b : A) → Some a ≡ Some b → a ≡ b
  same_some a b e = cc

  none_some : {A : Type 0} (a : A) → None ≡ Some a → ⊥
  none_some a e = absurd cc

  -- what one member is
  own-takes : (k : ℕ) (l : Leading) → Of k ≡ Some l → (l.node ≡ k) × Takes k l.term
  own-takes k l is = by (g.seat k).server refl is
    where
      by : (o : Option Server) → (g.seat k).server ≡ o → leading k o ≡ Some l → (l.node ≡ k) × Takes k l.term
      by None up led = absurd (none_some l led)
      by (Some s) up led =
          cond_both (is_ready s) (Some (record { node = k; term = s.term.0 })) None
          (λ (o : Option Leading). o ≡ Some l → (l.node ≡ k) × Takes k l.term)
          (λ ready e. (let same : record { node = k; term = s.term.0 } ≡ l =
          same_some (record { node = k; term = s.term.0 }) l e in (
            ap (λ (x : Leading). x.node) (sym same),
            record { server = s; is = up; ready = ready; term_is = ap (λ (x : Leading). x.term) (sym same) },
          )))
          (λ _ e. absurd (none_some l e)) led

  takes-own : (k : ℕ) (t : Server) → (g.seat k).server ≡ Some t → is_ready t ≡ true
      → Of k ≡ Some (record { node = k; term = t.term.0 })
  takes-own k t up ready =
      ap (leading k) up ∙ cond-true (is_ready t) (Some (record { node = k; term = t.term.0 })) None ready

  -- of two the later one
  record Chosen (best next : Option Leading) : Type 0 where
    is : (l : Leading) → later best next ≡ Some l → (best ≡ Some l) ⊎ (next ≡ Some l)
    old : (l : Leading) → best ≡ Some l → (m : Leading) × (later best next ≡ Some m) × (l.term ≤ m.term)
    new : (l : Leading) → next ≡ Some l → (m : Leading) × (later best next ≡ Some m) × (l.term ≤ m.term)

  chosen : (best next : Option Leading) → Chosen best next
  chosen best None = record {
    is = λ l e. inl e;
    old = λ l e. (l, e, omega arith);
    new = λ l e. absurd (none_some l e);
  }
  chosen None (Some next) = record {
    is = λ l e. inr e;
    old = λ l e. absurd (none_some l e);
    new = λ l e. (l, e, omega arith);
  }
  chosen (Some best) (Some next) = by (nat_lt best.term next.term) refl
    where
      by : (b : Bool) → nat_lt best.term next.term ≡ b → Chosen (Some best) (Some next)
      by true is =
          let same : later (Some best) (Some next) ≡ Some next =
          cond-true (nat_lt best.term next.term) (Some next) (Some best) is in
          let lt = ltb-true best.term next.term is in
          record {
            is = λ l e. inr (sym same ∙ e);
            old = λ l e.
                (next, same, (let t = ap (λ (x : Leading). x.term) (same_some best l e) in omega (arith, t, lt)));
            new = λ l e. (next, same, (let t = ap (λ (x : Leading). x.term) (same_some next l e) in omega (arith, t)));
          }
      by false is =
          let same : later (Some best) (Some next) ≡ Some best =
          cond-false (nat_lt best.term next.term) (Some next) (Some best) is in
          let le = ltb-false best.term next.term is in
          record {
            is = λ l e. inl (sym same ∙ e);
            old = λ l e. (best, same, (let t = ap (λ (x : Leading). x.term) (same_some best l e) in omega (arith, t)));
            new = λ l e.
                (best, same, (let t = ap (λ (x : Leading). x.term) (same_some next l e) in omega (arith, t, le)));
          }

  -- of members so far and others
  record IsBestOf (start nodes : List NodeId) (best : Option Leading) : Type 0 where
    some : (l : Leading) → best ≡ Some l
        → ((has_node l.node start ≡ true) ⊎ (has_node l.node nodes ≡ true)) × Takes l.node l.term
    least : (j : ℕ) (t : Server) → (has_node j start ≡ true) ⊎ (has_node j nodes ≡ true)
        → (g.seat j).server ≡ Some t → is_ready t ≡ true → (l : Leading) × (best ≡ Some l) × (t.term.0 ≤ l.term)

  either : (a : Bool) {b : Bool} → b ≡ true → (a || b) ≡ true
  either true e = refl
  either false e = e

  -- one member more
  next : (n : NodeId) (start : List NodeId) (best : Option Leading) → IsBestOf start [] best
      → IsBestOf (n ∷ start) [] (later best (Of n.0))
  next n start best is =
      let c : Chosen best (Of n.0) = chosen best (Of n.0) in
      record {
        some = λ l e. elim (c.is l e) [
          | inl old ↦ (let s = is.some l old in (
            inl (elim s.0 [
              | inl early ↦ either (nat_eq n.0 l.node) early
              | inr none ↦ absurd (false≢true none)
            ]),
            s.1,
          ))
          | inr own ↦ (let o = own-takes n.0 l own in (
            inl (ap (λ (b : Bool). b || has_node l.node start) (eq-eqb n.0 l.node (sym o.0))),
            subst (λ (k : ℕ). Takes k l.term) (sym o.0) o.1,
          ))
        ];
        least = λ j t here up ready. elim here [
          | inl early ↦ elim (or_cases (nat_eq n.0 j) (has_node j start) early) [
            | inl own ↦
                (let same : j ≡ n.0 = sym (eqb-true n.0 j own) in
                let o = takes-own n.0 t (ap (λ (k : ℕ). (g.seat k).server) (sym same) ∙ up) ready in
                c.new (record { node = n.0; term = t.term.0 }) o)
            | inr old ↦ (let l = is.least j t (inl old) up ready in let m = c.old l.0 l.1 in
                (m.0, m.1, (let a = l.2 in let b = m.2 in omega (arith, a, b))))
          ]
          | inr none ↦ absurd (false≢true none)
        ];
      }

  -- those so far are one more, or the others one fewer
  shifted : (n : NodeId) (nodes start : List NodeId) (best : Option Leading) → IsBestOf (n ∷ start) nodes best
      → IsBestOf start (n ∷ nodes) best
  shifted n nodes start best rest = record {
    some = λ l e. (let r = rest.some l e in (
      elim r.0 [
        | inl early ↦ elim (or_cases (nat_eq n.0 l.node) (has_node l.node start) early) [
          | inl own ↦ inr (ap (λ (b : Bool). b || has_node l.node nodes) own)
          | inr old ↦ inl old
        ]
        | inr more ↦ inr (either (nat_eq n.0 l.node) more)
      ],
      r.1,
    ));
    least = λ j t here up ready. rest.least j t (elim here [
      | inl old ↦ inl (either (nat_eq n.0 j) old)
      | inr some ↦ elim (or_cases (nat_eq n.0 j) (has_node j nodes) some) [
        | inl own ↦ inl (ap (λ (b : Bool). b || has_node j start) own)
        | inr more ↦ inr more
      ]
    ]) up ready;
  }

  all : (nodes start : List NodeId) (best : Option Leading) → IsBestOf start [] best
      → IsBestOf start nodes (fold (λ b (n : NodeId). later b (leading n.0 (g.seat n.0).server)) best nodes)
  all [] start best is = is
  all (n ∷ nodes) start best is =
      shifted n nodes start
      (fold (λ b (m : NodeId). later b (leading m.0 (g.seat m.0).server)) (later best (Of n.0)) nodes)
      (all nodes (n ∷ start) (later best (Of n.0)) (next n start best is))

  best : IsBestOf [] g.nodes (latest g.nodes g)
  best = all g.nodes [] None (record {
    some = λ l e. absurd (none_some l e);
    least = λ j t here up ready. elim here [
      | inl none ↦ absurd (false≢true none)
      | inr none ↦ absurd (false≢true none)
    ];
  })

  pub leads : (k : ℕ) → leader g ≡ Some k → (s : Server)
      × (has_node k g.nodes ≡ true) × ((g.seat k).server ≡ Some s) × (is_ready s ≡ true)
      × ((j : ℕ) (t : Server) → has_node j g.nodes ≡ true → (g.seat j).server ≡ Some t → is_ready t ≡ true
      → t.term.0 ≤ s.term.0)
  leads k is = by (latest g.nodes g) best is
    where
      by : (o : Option Leading) → IsBestOf [] g.nodes o → node_of o ≡ Some k → (s : Server)
          × (has_node k g.nodes ≡ true) × ((g.seat k).server ≡ Some s) × (is_ready s ≡ true)
          × ((j : ℕ) (t : Server) → has_node j g.nodes ≡ true → (g.seat j).server ≡ Some t → is_ready t ≡ true
          → t.term.0 ≤ s.term.0)
      by None b e = absurd (none_some k e)
      by (Some l) b e =
          let same : l.node ≡ k = same_some l.node k e in
          let s = b.some l refl in
          let takes : Takes k l.term = subst (λ (j : ℕ). Takes j l.term) same s.1 in (
            takes.server,
            elim s.0 [
              | inl none ↦ absurd (false≢true none)
              | inr there ↦ subst (λ (j : ℕ). has_node j g.nodes ≡ true) same there
            ],
            takes.is,
            takes.ready,
            λ j t here up ready. (let m = b.least j t (inr here) up ready in
                let own = ap (λ (x : Leading). x.term) (same_some l m.0 m.1) in let le = m.2 in let term = takes.term_is in
                omega (arith, own, le, term)),
          )

  pub leads-none : (j : ℕ) (t : Server) → leader g ≡ None → has_node j g.nodes ≡ true → (g.seat j).server ≡ Some t
      → is_ready t ≡ false
  leads-none j t is here up = elim (cases_Bool (is_ready t)) [
    | inl ready ↦ (let m = best.least j t (inr here) up ready in
        absurd (none_some m.0.node (sym is ∙ ap node_of m.1)))
    | inr not ↦ not
  ]
