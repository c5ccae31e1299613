-- A leader adds an entry.
use Rattle.std.proofs.Common.{◌≡◌, ◌⊎◌, ℕ, ◌≤◌, ◌<◌, List, [], ◌∷◌, length, Some, None, refl, sym, ap, subst, ◌∙◌, arith, inl, inr}
use Rattle.qq_base.specs.Fronts.{IsFront, put}
use Rattle.qq_base.proofs.Fronts.{front-refl, front-trans}
use Rattle.qq_base.proofs.Puts.{put-each, put-same, put-other}
use Rattle.qq_entry.specs.declared.command.Entry.{Entry}
use Rattle.qq_raft_protocol.specs.World.{Ack, World}
use Rattle.qq_raft_protocol.specs.World.Role.{Candidate, Leader}
use Rattle.qq_raft_protocol.specs.Facts.{add, Within, Good, Point, Acked, Dead, Holds}
use Rattle.qq_raft_protocol.specs.Moves.{push, next_lane, after, Allowed}
use Rattle.qq_raft_protocol.specs.Moves.Move.{Append}
use Rattle.qq_raft_protocol.proofs.Changes.{Follows, pushed, push-each, push-noticed, push-older, push-led, push-ask, push-grant, push-asked, push-ack, pushed-grows}
use Rattle.qq_raft_protocol.proofs.Grows.{Grows, good-grows, dead-grows, holds-grows, settled-grows, won-grows}
use Rattle.qq_raft_protocol.proofs.Kept.{Kept, LeaderKept, CandidateKept, DoneKept, AckKept, Has, elects_lanes, voted_term, ack_grows, sent_grows, done_grows}
use Rattle.qq_raft_protocol.proofs.Elections.{stood_only}
use Rattle.qq_raft_protocol.proofs.Majorities.{Most-map}
use Rattle.qq_raft_protocol.proofs.Votes.{no_vote}
use Rattle.qq_raft_protocol.proofs.Roles.{leader_asks, none_some, some_same}
use Rattle.qq_raft_protocol.proofs.Logs.{front-add, front-of_add, add-same, Within-add}

-- nobody has acknowledged what follows the leader's log, so it is never committed once a later term has a leader
new_refused : {members : List ℕ} {w : World} (i : ℕ) (e : Entry) → Kept members w
    → w.hist (w.member i).mine.term ≡ (w.member i).mine.log → e.term.0 ≡ (w.member i).mine.term
    → (t c : ℕ) → w.lead t ≡ Some c → e.term.0 < t → Dead members w (w.member i).mine.log e
new_refused {members} {w} i e k log own t c lead lt =
    Most-map (λ q x. record {
      unacked = λ y.
          let upto = (k.ack q y.ack y.said y.from).upto in
          let long : length (w.hist y.ack.term) ≡ length (w.member i).mine.log = ap (λ (n : ℕ). length (w.hist n))
          (y.term ∙ own) ∙ ap length log in
          let reaches : length (w.member i).mine.log < y.ack.upto = y.reaches in
          omega (arith, upto, long, reaches);
      later = λ l here. let le = voted_term t c l (elects_lanes k x l here) in omega (arith, lt, le);
    }) (k.won t c lead)

put-at : {A : Type 0} (t : ℕ) (x : A) (f : ℕ → A) (j : ℕ) → j ≡ t → put t x f j ≡ x
put-at t x f j same = ap (put t x f) same ∙ put-same t x f

-- a log that is longer holds what the shorter one held
holds-front : {members : List ℕ} {w : World} {a log more : List Entry} {e : Entry} → IsFront log more
    → Holds members w a e log → Holds members w a e more
holds-front p holds = elim holds [ inl front ↦ inl (front-trans front p) | inr dead ↦ inr dead ]

holds-later : {members : List ℕ} {w v : World} {a log longer : List Entry} {e : Entry} → Grows w v
    → IsFront log longer → Holds members w a e log → Holds members v a e longer
holds-later g p holds = holds-front p (holds-grows g holds)

pub kept-append : {members : List ℕ} {w : World} (i : ℕ) (entry : Entry) → Kept members w
    → Allowed members w (Append i entry) → Kept members (after w (Append i entry))
kept-append {members} {w} i new k may =
    let m = w.member i in
    let t = m.mine.term in
    let log = add m.mine.log new in
    let lane = next_lane m t m.mine.vote log in
    let own : new.term.0 ≡ t = may.1 in
    let l = k.leader i may.0 in
    let f : Follows m.mine lane = record { op = refl; term = omega arith; vote = λ e. inl refl } in
    let ack : Ack = record { from = i; term = t; upto = length log; op = lane.op } in
    let v = after w (Append i new) in
    let hist : (j : ℕ) → IsFront (w.hist j) (v.hist j) =
    put-each (λ j h. IsFront (w.hist j) h) t log w.hist
    (subst (λ x. IsFront x log) (sym l.log) (front-add m.mine.log new)) (λ j other. front-refl (w.hist j)) in
    let g : Grows w v = pushed-grows w v i lane (omega arith) (λ q. refl)
    (λ x said. elim said [
      | inr before ↦ inl before
      | inl same ↦
          inr (subst (λ (y : Ack). (w.member y.from).mine.term ≤ y.term) (sym same) (omega arith))
    ]) (λ x said. inr said) (λ x said. said) hist in
    let back : (a : List Entry) (e : Entry) → Point v a e → Point w a e ⊎ ((a ≡ m.mine.log) × (e ≡ new)) =
    λ a e p. put-each (λ j h. j ≡ e.term.0 → IsFront (add a e) h → Point w a e ⊎ ((a ≡ m.mine.log) × (e ≡ new))) t log
    w.hist
    (λ same q. elim (front-of_add (add a e) m.mine.log new q) [
      | inl before ↦ inl (k.good i m.mine (inl refl) a e before)
      | inr whole ↦ inr (add-same a m.mine.log e new whole)
    ])
    (λ j other same q. inl (subst (λ (n : ℕ). IsFront (add a e) (w.hist n)) same q)) e.term.0 refl p in
    let old_point : (x : Ack) → x.upto ≤ length (w.hist x.term) → (a : List Entry) (e : Entry) → e.term.0 ≡ x.term
    → length a < x.upto → Point v a e → Point w a e =
    λ x upto a e same lt p. elim (back a e p) [
      | inl before ↦ before
      | inr is ↦
          let long : length a ≡ length (w.hist x.term) = ap length (is.0 ∙ sym l.log)
          ∙ ap (λ (n : ℕ). length (w.hist n)) (sym own ∙ ap (λ (y : Entry). y.term.0) (sym is.1) ∙ same) in
          absurd (omega (arith, upto, long, lt))
    ] in
    let old_ack : (x : ℕ) (a : List Entry) (e : Entry) → (x ≡ i → e.term.0 ≡ t → ⊥) → Acked (ack ∷ w.acks) a e x
    → Acked w.acks a e x =
    λ q a e away x. elim x.said [
      | inr before ↦ record { ack = x.ack; said = before; from = x.from; term = x.term; reaches = x.reaches }
      | inl same ↦
          absurd (away (sym x.from ∙ ap (λ (y : Ack). y.from) same) (sym x.term ∙ ap (λ (y : Ack). y.term) same))
    ] in
    let good : Good v log =
    λ a e p. elim (front-of_add (add a e) m.mine.log new p) [
      | inl before ↦ good-grows g (k.good i m.mine (inl refl)) a e before
      | inr whole ↦
          let is = add-same a m.mine.log e new whole in
          subst (IsFront (add a e)) (sym (put-at t log w.hist e.term.0 (ap (λ (y : Entry). y.term.0) is.1 ∙ own)))
          (subst (IsFront (add a e)) whole (front-refl (add a e)))
    ] in
    record {
      noticed = push-noticed i lane k f;
      older = push-older i lane k f;
      good =
          push-each w (λ q l. Good v l.log) i lane good (λ q l here. good-grows g (k.good q l here));
      within =
          push-each w (λ q l. Within l.term l.log) i lane
          (Within-add m.mine.log new (k.within i m.mine (inl refl)) (omega (arith, own))) k.within;
      hist_good =
          put-each (λ j h. Good v h) t log w.hist
          good (λ j other. good-grows g (k.hist_good j));
      hist_within =
          put-each (λ j h. Within j h) t log w.hist
          (Within-add m.mine.log new (k.within i m.mine (inl refl)) (omega (arith, own))) (λ j other. k.hist_within j);
      unled = λ j e.
          put-each (λ j h. w.lead j ≡ None → h ≡ []) t log w.hist
          (λ e. absurd (none_some (w.lead t) i e l.leads)) (λ j other e. k.unled j e) j e;
      won = λ j c lead. won-grows g (k.won j c lead);
      led = push-led i lane k f;
      safe = λ j c lead a e p lt. elim (back a e p) [
        | inl before ↦
            holds-later g (hist j) (k.safe j c lead a e before lt)
        | inr is ↦
            inr (dead-grows g (subst (λ (x : List Entry). Dead members w x e) (sym is.0)
            (subst (λ (y : Entry). Dead members w m.mine.log y) (sym is.1)
            (new_refused i new k l.log own j c lead (subst (λ (y : Entry). y.term.0 < j) is.1 lt)))))
      ];
      ask_good = λ x said. good-grows g (k.ask_good x said);
      ask = push-ask i lane k f;
      grant = push-grant i lane k f;
      asked = push-asked i lane k f;
      once = k.once;
      vote = λ x said a e p lt acked.
          let away : x.from ≡ i → e.term.0 ≡ t → ⊥ =
          λ from term. let le = no_vote i x k said from in omega (arith, le, term, lt) in
          let known = old_ack x.from a e away acked in
          elim (back a e p) [
            | inl before ↦ holds-grows g (k.vote x said a e before lt known)
            | inr is ↦
                let kept = k.ack x.from known.ack known.said known.from in
                let upto = kept.upto in
                let long : length (w.hist known.ack.term) ≡ length a = ap (λ (n : ℕ). length (w.hist n))
                (known.term ∙ ap (λ (y : Entry). y.term.0) is.1 ∙ own) ∙ ap length (l.log ∙ sym is.0) in
                let reaches : length a < known.ack.upto = known.reaches in
                absurd (omega (arith, upto, long, reaches))
          ];
      leader =
          put-each (λ q x. w.role q ≡ Leader → LeaderKept w.lead v.hist q x) i (push m lane) w.member
          (λ is. record { leads = l.leads; log = put-same t log w.hist })
          (λ q other is.
          let d = k.leader q is in
          let away : (w.member q).mine.term ≡ t → ⊥ =
          λ same. other (sym (some_same i q (sym l.leads ∙ ap w.lead (sym same) ∙ d.leads))) in
          record { leads = d.leads; log = put-other t log w.hist (w.member q).mine.term away ∙ d.log });
      candidate =
          put-each (λ q x. w.role q ≡ Candidate → CandidateKept w.lead w.asks w.grants q x) i (push m lane) w.member
          (λ is. absurd (leader_asks (sym may.0 ∙ is))) (λ q other. k.candidate q);
      sent = λ s said. let kept = k.sent s said in sent_grows g kept.lead kept;
      ack = λ q x said from. elim said [
        | inr before ↦
            let kept = push-ack i lane k f (λ a e p le holds. holds-front (front-add m.mine.log new) holds) q x before
            from in
            ack_grows g (old_point x kept.upto) kept
        | inl same ↦
            subst (λ (y : Ack). AckKept members v y (pushed w i lane q)) (sym same)
            (put-each (λ q x. i ≡ q → AckKept members v ack x) i (push m lane) w.member
            (λ here. record {
              upto = subst (λ (x : List Entry). length log ≤ length x) (sym (put-same t log w.hist)) (omega arith);
              op = omega arith;
              each =
                  stood_only i lane (Has members v ack) k refl (record {
                    term = omega arith;
                    entries = λ a e p same lt.
                        inl (subst (IsFront (add a e)) (put-at t log w.hist e.term.0 same) p);
                  });
            })
            (λ q other here. absurd (other (sym here))) q (ap (λ (y : Ack). y.from) (sym same) ∙ from))
      ];
      done =
          put-each (λ q x. DoneKept members v x (w.done q)) i (push m lane) w.member
          (record {
            front = front-trans (k.done i).front (front-add m.mine.log new);
            settled = settled-grows g (k.done i).settled;
          })
          (λ q other. done_grows g (k.done q));
      audit_term = k.audit_term;
      audit = settled-grows g k.audit;
      dones = k.dones;
    }
