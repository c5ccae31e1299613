-- An open session keeps the answers to the numbers above its mark and below its next, and is the only one of its id.
use Rattle.std.proofs.Common.{◌≡◌, ℕ, ◌+◌, ◌-◌, ◌≤◌, ◌⊎◌, Bool, true, false, not, cond, List, [], ◌∷◌, ◌++◌, Option, Some, None, map, length, refl, sym, ap, ◌∙◌, subst, inl, inr, arith, length-append, if◌then◌else◌}
use Rattle.std.specs.Prelude.{nat_eq, nat_lt, nat_le, min, filter}
use Rattle.std.specs.List.{AllByRecursion}
use Rattle.std.proofs.lemmas.Bool.{false≢true, cases_Bool, cond-true, cond-false, cond_both, or_from, or_parts, eq-eqb, leb-true, cases_lt}
use Rattle.std.proofs.lemmas.List.{length-drop}
use Rattle.std.proofs.lemmas.List.Folds.{list_any-append}
use Rattle.std.proofs.Math.Nat.{le-max_left, max-le, min-le_right}
use Rattle.qq_base.specs.declared.ids.Index.{Index}
use Rattle.qq_base.specs.declared.ids.SessionId.{SessionId}
use Rattle.qq_base.specs.Ids.{same_session}
use Rattle.qq_entry.specs.declared.command.Stamp.{Stamp}
use Rattle.qq_entry.specs.declared.command.Command.{Command}
use Rattle.qq_entry.specs.declared.command.Entry.{Entry}
use Rattle.qq_entry.specs.declared.answer.Answer.{Answer}
use Rattle.qq_entry.specs.Command.{stamp}
use Rattle.qq_model.specs.declared.TheConstants.{WINDOW}
use Rattle.qq_model.specs.declared.session.OpenSession.{OpenSession}
use Rattle.qq_model.specs.declared.session.Gate.{Gate}
use Rattle.qq_model.specs.declared.session.Gate.TheVariants.{Fresh, Gap, WindowFull}
use Rattle.qq_model.specs.State.{State, Sessions}
use Rattle.qq_model.specs.Gate.{is_dead_letter, session_of, is_open, is_ended, next_mark, repeat_by, kept_answer, gate_number, gate_by, gate, raise_mark, change_session, turn_away, use_number, new_session, is_giving_way, open_session, admit, add_answer, keep_answer, set_tag, take_tag, end_session, is_end_remembered, put_ended, remember_end}
use Rattle.qq_model.specs.Commands.{Acted}
use Rattle.qq_model.specs.Step.{carry_out, go_through, step_by, step}
use Rattle.qq_model.specs.Audit.{next_index, next_step}
use Rattle.qq_model.specs.Sound.{KeepsAnswers}
use Rattle.qq_base.proofs.Lists.{In, AllByRecursion-in, AllByRecursion-append, AllByRecursion-filter, AllByRecursion-weaker, find-in, list_any-filter, list_any-from_in, list_any-map}
use Rattle.qq_model.proofs.Lists.{AllByRecursion-from_in, find-none}
use Rattle.qq_model.proofs.CarryOut.{carry_out-keeps}
use Rattle.qq_model.proofs.LaterSteps.{fresh-checked}
use Rattle.qq_model.proofs.SessionLemmas.{same_session-refl, same_session-true}
use Rattle.qq_model.proofs.SingleChanges.{Acts, KeepsRows}

-- One of its id -------------------------------------------------------------------------------------------

abbrev pub AreApart : List OpenSession → Type 0
AreApart [] = Unit {0}
AreApart (one ∷ rest) = (is_open one.session rest ≡ false) × AreApart rest

apart-map : (f : OpenSession → OpenSession) (ones : List OpenSession)
    → ((one : OpenSession) → (f one).session ≡ one.session)
    → AreApart ones → AreApart (map f ones)
apart-map f [] same apart = tt
apart-map f (one ∷ rest) same apart = (
  ap (λ (id : SessionId). is_open id (map f rest)) (same one)
      ∙ list_any-map (λ (o : OpenSession). same_session o.session one.session) f rest
      (λ o. ap (λ (id : SessionId). same_session id one.session) (same o)) ∙ apart.0,
  apart-map f rest same apart.1,
)

apart-filter : (keeps : OpenSession → Bool) (ones : List OpenSession) → AreApart ones → AreApart (filter keeps ones)
apart-filter keeps [] apart = tt
apart-filter keeps (one ∷ rest) apart =
    let more = apart-filter keeps rest apart.1 in
    cond_both (keeps one) (one ∷ filter keeps rest) (filter keeps rest) AreApart
    (λ _. (list_any-filter (λ (o : OpenSession). same_session o.session one.session) keeps rest apart.0, more))
    (λ _. more)

same_session-flip : (a b : SessionId) → same_session a b ≡ false → same_session b a ≡ false
same_session-flip a b other = elim (cases_Bool (same_session b a)) [
  | inr differs ↦ differs
  | inl same ↦
      absurd (false≢true (sym other ∙ ap (λ (id : SessionId). same_session id b) (sym (same_session-true b a same))
      ∙ same_session-refl b))
]

apart-push : (ones : List OpenSession) (new : OpenSession) → AreApart ones → is_open new.session ones ≡ false
    → AreApart (ones ++ new ∷ [])
apart-push [] new apart closed = (refl, tt)
apart-push (one ∷ rest) new apart closed =
    let parts = or_parts (same_session one.session new.session) (is_open new.session rest) closed in (
      list_any-append (λ (o : OpenSession). same_session o.session one.session) rest (new ∷ [])
          ∙ or_from (is_open one.session rest) (is_open one.session (new ∷ [])) apart.0
          (or_from (same_session new.session one.session) false (same_session-flip one.session new.session parts.0)
          refl),
      apart-push rest new apart.1 parts.1,
    )

-- the one of an id is what is found
apart-found : (id : SessionId) (ones : List OpenSession) (a b : OpenSession) → AreApart ones → In a ones
    → same_session a.session id ≡ true → session_of id ones ≡ Some b → a ≡ b
apart-found id [] a b apart here is found = absurd here
apart-found id (one ∷ rest) a b apart here is found =
    by (cases_Bool (same_session one.session id)) here
    (λ later found'. apart-found id rest a b apart.1 later is found')
  where
    by : (same_session one.session id ≡ true) ⊎ (same_session one.session id ≡ false) → In a (one ∷ rest)
        → (In a rest → session_of id rest ≡ Some b → a ≡ b) → a ≡ b
    by (inl first) (inl same) more =
        let e : Some one ≡ Some b = sym
        (cond-true (same_session one.session id) (Some one) (session_of id rest) first)
        ∙ found in
        let eq : one ≡ b = cc in
        same ∙ eq
    by (inl first) (inr later) more =
        let twice : same_session a.session one.session ≡ true =
        ap (same_session a.session) (same_session-true one.session id first) ∙ is in
        absurd (false≢true (sym apart.0
        ∙ list_any-from_in (λ (o : OpenSession). same_session o.session one.session) a rest later twice))
    by (inr other) (inl same) more =
        absurd (false≢true (sym other ∙ ap (λ (o : OpenSession). same_session o.session id) (sym same) ∙ is))
    by (inr other) (inr later) more =
        more later (sym (cond-false (same_session one.session id) (Some one) (session_of id rest) other) ∙ found)

-- What is kept -----------------------------------------------------------------------------------------------

-- but for so many answers that are still to come
pub record IsKept (owed : ℕ) (one : OpenSession) : Type 0 where
  pub next : one.next ≡ one.mark + length one.kept + 1 + owed
  pub window : length one.kept + owed ≤ WINDOW
  pub plain : is_dead_letter one.session ≡ false

mark-above : (stamp : Stamp) (one : OpenSession) → one.mark ≤ next_mark stamp one
mark-above stamp one = le-max_left one.mark (min stamp.done (one.next - 1))

mark-below : (stamp : Stamp) (one : OpenSession) → IsKept 0 one → next_mark stamp one ≤ one.next - 1
mark-below stamp one kept =
    let low : one.mark ≤ one.next - 1 = omega (arith, kept.next) in
    max-le low (min-le_right stamp.done (one.next - 1))

raise-length : (stamp : Stamp) (one : OpenSession)
    → length (raise_mark stamp one).kept ≡ length one.kept - (next_mark stamp one - one.mark)
raise-length stamp one = length-drop (next_mark stamp one - one.mark) one.kept

raise-kept : (stamp : Stamp) (one : OpenSession) → IsKept 0 one → IsKept 0 (raise_mark stamp one)
raise-kept stamp one kept = record {
  next = omega (arith, kept.next, raise-length stamp one, mark-above stamp one, mark-below stamp one kept);
  window = omega (arith, kept.window, raise-length stamp one);
  plain = kept.plain;
}

use-kept : (stamp : Stamp) (one : OpenSession) → IsKept 0 one
    → nat_eq (one.next - 1 - next_mark stamp one) WINDOW ≡ false → IsKept 1 (use_number stamp one)
use-kept stamp one kept room =
    let long = raise-length stamp one in
    let above = mark-above stamp one in
    let below = mark-below stamp one kept in
    let differ : (one.next - 1 - next_mark stamp one ≡ WINDOW) → ⊥ =
    λ e. false≢true (sym room ∙ eq-eqb (one.next - 1 - next_mark stamp one) WINDOW e) in
    let is : length (raise_mark stamp one).kept ≡ one.next - 1 - next_mark stamp one =
    omega (arith, kept.next, long, above, below) in
    let within : length (raise_mark stamp one).kept ≤ WINDOW = omega (arith, kept.window, long) in
    record {
      next = omega (arith, kept.next, long, above, below);
      window = less (length (raise_mark stamp one).kept) WINDOW within (λ e. differ (sym is ∙ e));
      plain = kept.plain;
    }
  where
    less : (m n : ℕ) → m ≤ n → (m ≡ n → ⊥) → m + 1 ≤ n
    less m n le differ =
        elim (cases_lt m n) [ inl lt ↦ omega arith | inr ge ↦ let same : m ≡ n = omega arith in absurd (differ same) ]

-- whether the answer to a stamped command is still to come
abbrev pub owed_of : Option Stamp → OpenSession → ℕ
owed_of None one = 0
owed_of (Some stamp) one = cond (same_session one.session stamp.session) 1 0

pub record Keeps (owing : Option Stamp) (s : Sessions) : Type 0 where
  pub each : AllByRecursion (λ (one : OpenSession). IsKept (owed_of owing one) one) s.opened
  pub apart : AreApart s.opened

-- the sessions of an id are changed
change-keeps : (owing owing' : Option Stamp) (s : Sessions) (id : SessionId) (by : OpenSession → OpenSession)
    → ((one : OpenSession) → (by one).session ≡ one.session)
    → ((one : OpenSession) → In one s.opened → same_session one.session id ≡ true → IsKept (owed_of owing one) one
    → IsKept (owed_of owing' one) (by one))
    → ((one : OpenSession) → same_session one.session id ≡ false → owed_of owing' one ≡ owed_of owing one)
    → Keeps owing s → Keeps owing' (record s { opened = change_session id by s.opened })
change-keeps owing owing' s id by same changed stays keeps = record {
  each = all s.opened (λ one here. here) keeps.each;
  apart = apart-map f s.opened (λ one. cond_both (same_session one.session id) (by one) one
      (λ (o : OpenSession). o.session ≡ one.session) (λ _. same one) (λ _. refl)) keeps.apart;
}
  where
    f : OpenSession → OpenSession
    f one = if same_session one.session id then by one else one

    one-kept : (one : OpenSession) → In one s.opened → IsKept (owed_of owing one) one
        → IsKept (owed_of owing' (f one)) (f one)
    one-kept one here kept =
        let still : owed_of owing' (f one) ≡ owed_of owing' one =
        cond_both (same_session one.session id) (by one) one
        (λ (o : OpenSession). owed_of owing' o ≡ owed_of owing' one)
        (λ _. owed-same owing' (by one) one (same one)) (λ _. refl) in
        subst (λ (n : ℕ). IsKept n (f one)) (sym still)
        (cond_both (same_session one.session id) (by one) one (IsKept (owed_of owing' one))
        (λ is. changed one here is kept) (λ other. subst (λ (n : ℕ). IsKept n one) (sym (stays one other)) kept))
      where
        owed-same : (o : Option Stamp) (a b : OpenSession) → a.session ≡ b.session → owed_of o a ≡ owed_of o b
        owed-same None a b e = refl
        owed-same (Some stamp) a b e =
            ap (λ (i : SessionId). let n : ℕ = cond (same_session i stamp.session) 1 0 in n) e

    all : (ones : List OpenSession) → ((one : OpenSession) → In one ones → In one s.opened)
        → AllByRecursion (λ (one : OpenSession). IsKept (owed_of owing one) one) ones
        → AllByRecursion (λ (one : OpenSession). IsKept (owed_of owing' one) one) (map f ones)
    all [] within each = tt
    all (one ∷ rest) within each =
        (one-kept one (within one (inl refl)) each.0, all rest (λ o later. within o (inr later)) each.1)

tag-keeps : (owing : Option Stamp) (s : Sessions) (id : SessionId) (tag : ℕ) → Keeps owing s
    → Keeps owing (take_tag id tag s)
unfolding take_tag
tag-keeps owing s id tag keeps =
    change-keeps owing owing s id (set_tag tag) (λ one. refl)
    (λ one here is kept. record { next = kept.next; window = kept.window; plain = kept.plain }) (λ one other. refl)
    keeps

end-keeps : (owing : Option Stamp) (s : Sessions) (id : SessionId) → Keeps owing s → Keeps owing (end_session s id)
unfolding end_session
end-keeps owing s id keeps =
    let stays : OpenSession → Bool = λ one. not (same_session one.session id) in
    cond_both (is_open id s.opened) (record s { opened = filter stays s.opened; ended = remember_end id s.ended }) _
    (Keeps owing) (λ _. record {
      each = AllByRecursion-filter (λ (one : OpenSession). IsKept (owed_of owing one) one) stays s.opened keeps.each;
      apart = apart-filter stays s.opened keeps.apart;
    })
    (λ _. cond_both (is_end_remembered s id) (record s { ended = put_ended id.number s.ended; seen = s.seen + 1 }) s
    (Keeps owing) (λ _. record { each = keeps.each; apart = keeps.apart }) (λ _. keeps))

Keeps-rows : (owing : Option Stamp) (command : Command) → KeepsRows command (λ p. Keeps owing p.state.sessions)
Keeps-rows owing command =
    record { row = λ p q old new keeps here moves out why turns. subst (Keeps owing) (sym turns.sessions) keeps }

Keeps-acts : (owing : Option Stamp) (command : Command) → Acts command (λ p. Keeps owing p.state.sessions)
Keeps-acts owing command = record {
  rows = Keeps-rows owing command;
  purge = λ p keeps purges. keeps;
  attach = λ p term keeps least greater. keeps;
  join = λ p id mode keeps above own. tag-keeps owing p.state.sessions id.session id.tag keeps;
  cancel = λ p id consumer keeps found. keeps;
  finish = λ p keeps. keeps;
  credit = λ p id consumer credit keeps found. keeps;
  turn = λ p id consumer keeps found. keeps;
  leave = λ p session keeps is same none. end-keeps owing p.state.sessions session keeps;
}

pub carry_out-kept : (owing : Option Stamp) (index : Index) (command : Command) (s : State) → Keeps owing s.sessions
    → Keeps owing (carry_out index command s).progress.state.sessions
carry_out-kept owing index command s keeps =
    carry_out-keeps {I = λ p. Keeps owing p.state.sessions} index command s (Keeps-acts owing command)
    (λ p row consumer keeps found next. keeps)
    (record {
      rows = Keeps-rows owing command;
      offer = λ p number reason row keeps here is found may full. keeps;
      drain = λ p id consumer keeps found. keeps;
    })
    (λ p stamp message keeps is found. keeps) keeps

-- At the gate --------------------------------------------------------------------------------------------------

-- an open session's number that is let in leaves room for its answer
fresh-room : (stamp : Stamp) (one : OpenSession) → gate_number stamp one ≡ Fresh
    → nat_eq (one.next - 1 - next_mark stamp one) WINDOW ≡ false
fresh-room stamp one fresh = elim (cases_Bool (nat_eq (one.next - 1 - next_mark stamp one) WINDOW)) [
  | inr room ↦ room
  | inl full ↦ absurd (never full)
]
  where
    again≢Fresh : (o : Option Answer) → repeat_by o ≡ Fresh → ⊥
    again≢Fresh None same = cc
    again≢Fresh (Some answer) same = cc

    never : nat_eq (one.next - 1 - next_mark stamp one) WINDOW ≡ true → ⊥
    never full =
        let last : (if nat_eq (one.next - 1 - next_mark stamp one) WINDOW then WindowFull else Fresh) ≡ Fresh → ⊥ =
        λ e. let same : WindowFull ≡ Fresh =
        sym (cond-true (nat_eq (one.next - 1 - next_mark stamp one) WINDOW) WindowFull Fresh full) ∙ e in cc in
        cond_both (nat_le stamp.seq (next_mark stamp one)) _ _ (λ (g : Gate). g ≡ Fresh → ⊥) (λ _ e. cc)
        (λ _. cond_both (nat_lt stamp.seq one.next) (repeat_by (kept_answer stamp.seq one)) _
        (λ (g : Gate). g ≡ Fresh → ⊥) (λ _. again≢Fresh (kept_answer stamp.seq one))
        (λ _. cond_both (nat_lt one.next stamp.seq) (Gap one.next) _ (λ (g : Gate). g ≡ Fresh → ⊥) (λ _ e. cc)
        (λ _. last))) fresh

pub admit-kept : (s : Sessions) (stamp : Stamp) → gate s stamp ≡ Fresh → Keeps None s
    → Keeps (Some stamp) (admit s stamp)
unfolding admit
admit-kept s stamp fresh keeps = by (cases_Bool (is_dead_letter stamp.session))
  where
    id : SessionId
    id = stamp.session

    uses : Sessions
    uses = record s { opened = change_session id (use_number stamp) s.opened }

    nothing : (one : OpenSession) → same_session one.session id ≡ false → owed_of (Some stamp) one ≡ 0
    nothing one other = cond-false (same_session one.session id) 1 0 other

    just : (one : OpenSession) → same_session one.session id ≡ true → owed_of (Some stamp) one ≡ 1
    just one same = cond-true (same_session one.session id) 1 0 same

    opens : (o : Option OpenSession) → session_of id s.opened ≡ o → gate_by o s stamp ≡ Fresh
        → is_dead_letter id ≡ false
        → Keeps (Some stamp) (cond (is_open id s.opened) uses (open_session s stamp))
    opens (Some one) found checked plain =
        let open' : is_open id s.opened ≡ true =
        let some = find-in (λ (o : OpenSession). same_session o.session id) s.opened one found in
        list_any-from_in (λ (o : OpenSession). same_session o.session id) one s.opened some.0 some.1 in
        subst (Keeps (Some stamp)) (sym (cond-true (is_open id s.opened) uses (open_session s stamp) open'))
        (change-keeps None (Some stamp) s id (use_number stamp) (λ o. refl)
        (λ o here is kept.
        let itself : o ≡ one = apart-found id s.opened o one keeps.apart here is found in
        subst (λ (n : ℕ). IsKept n (use_number stamp o)) (sym (just o is))
        (use-kept stamp o kept
        (ap (λ (a : OpenSession). nat_eq (a.next - 1 - next_mark stamp a) WINDOW) itself
        ∙ fresh-room stamp one checked))) (λ o other. nothing o other) keeps)
    opens None found checked plain =
        let closed : is_open id s.opened ≡ false =
        find-none (λ (o : OpenSession). same_session o.session id) s.opened found in
        let stays : OpenSession → Bool = λ one. not (is_giving_way id one) in
        let others : AllByRecursion (λ (one : OpenSession). IsKept (owed_of (Some stamp) one) one) s.opened =
        AllByRecursion-from_in (λ (one : OpenSession). IsKept (owed_of (Some stamp) one) one) s.opened
        (λ one here. elim (cases_Bool (same_session one.session id)) [
          | inl same ↦
              absurd (false≢true (sym closed
              ∙ list_any-from_in (λ (o : OpenSession). same_session o.session id) one s.opened here same))
          | inr other ↦
              subst (λ (n : ℕ). IsKept n one) (sym (nothing one other))
              (AllByRecursion-in (λ (o : OpenSession). IsKept 0 o) one s.opened keeps.each here)
        ]) in
        subst (Keeps (Some stamp)) (sym (cond-false (is_open id s.opened) uses (open_session s stamp) closed))
        (record {
          each =
              AllByRecursion-append (λ (one : OpenSession). IsKept (owed_of (Some stamp) one) one)
              (filter stays s.opened) (new_session stamp ∷ [])
              (AllByRecursion-filter (λ (one : OpenSession). IsKept (owed_of (Some stamp) one) one) stays s.opened
              others) (
                subst (λ (n : ℕ). IsKept n (new_session stamp))
                    (sym (just (new_session stamp) (same_session-refl id)))
                    (record { next = refl; window = leb-true 1 WINDOW refl; plain = plain }),
                tt,
              );
          apart =
              apart-push (filter stays s.opened) (new_session stamp) (apart-filter stays s.opened keeps.apart)
              (list_any-filter (λ (o : OpenSession). same_session o.session id) stays s.opened closed);
        })

    by : (is_dead_letter id ≡ true) ⊎ (is_dead_letter id ≡ false) → Keeps (Some stamp)
        (cond (is_dead_letter id) s (cond (is_open id s.opened) uses (open_session s stamp)))
    by (inl dead) =
        subst (Keeps (Some stamp)) (sym (cond-true (is_dead_letter id) s _ dead)) (record {
          each =
              AllByRecursion-weaker (λ (one : OpenSession). IsKept 0 one)
              (λ (one : OpenSession). IsKept (owed_of (Some stamp) one) one)
              (λ one kept. elim (cases_Bool (same_session one.session id)) [
                | inl same ↦
                    absurd (false≢true (sym kept.plain ∙ ap is_dead_letter (same_session-true one.session id same)
                    ∙ dead))
                | inr other ↦ subst (λ (n : ℕ). IsKept n one) (sym (nothing one other)) kept
              ]) s.opened keeps.each;
          apart = keeps.apart;
        })
    by (inr plain) =
        subst (Keeps (Some stamp)) (sym (cond-false (is_dead_letter id) s _ plain))
        (opens (session_of id s.opened) refl (fresh-checked s stamp plain fresh) plain)

pub answer-kept : (s : Sessions) (stamp : Stamp) (answer : Answer) → Keeps (Some stamp) s
    → Keeps None (keep_answer stamp answer s)
unfolding keep_answer
answer-kept s stamp answer keeps =
    change-keeps (Some stamp) None s stamp.session (add_answer answer) (λ one. refl)
    (λ one here is kept.
    let one-owed : IsKept 1 one =
    subst (λ (n : ℕ). IsKept n one) (cond-true (same_session one.session stamp.session) 1 0 is) kept in
    let long = length-append one.kept (answer ∷ []) in
    record {
      next = omega (arith, one-owed.next, long);
      window = omega (arith, one-owed.window, long);
      plain = one-owed.plain;
    })
    (λ one other. sym (cond-false (same_session one.session stamp.session) 1 0 other)) keeps

pub turn_away-kept : (s : Sessions) (stamp : Stamp) → Keeps None s → Keeps None (turn_away s stamp)
unfolding turn_away
turn_away-kept s stamp keeps =
    cond_both (is_ended s stamp.session) s
    (record s { opened = change_session stamp.session (raise_mark stamp) s.opened }) (Keeps None) (λ _. keeps)
    (λ _. change-keeps None None s stamp.session (raise_mark stamp) (λ one. refl)
    (λ one here is kept. raise-kept stamp one kept) (λ one other. refl) keeps)

pub next-kept : (s : State) (entry : Entry) → Keeps None s.sessions → Keeps None (next_step s entry).state.sessions
unfolding step
next-kept s entry keeps = by (stamp entry.command)
  where
    passes : (g : Gate) (stamp : Stamp) → gate s.sessions stamp ≡ g
        → Keeps None (go_through g (next_index s) stamp entry.command s).state.sessions
    passes Fresh stamp is =
        let a : Acted = carry_out (next_index s) entry.command (record s { sessions = admit s.sessions stamp }) in
        answer-kept a.progress.state.sessions stamp a.answer
        (carry_out-kept (Some stamp) (next_index s) entry.command (record s { sessions = admit s.sessions stamp })
        (admit-kept s.sessions stamp is keeps))
    passes _ stamp is = turn_away-kept s.sessions stamp keeps

    by : (o : Option Stamp) → Keeps None (step_by o (next_index s) entry.command s).state.sessions
    by None = carry_out-kept None (next_index s) entry.command s keeps
    by (Some stamp) = passes (gate s.sessions stamp) stamp refl

pub keeps_answers : (one : OpenSession) → IsKept 0 one → KeepsAnswers one
keeps_answers one kept = record {
  mark = omega (arith, kept.next);
  kept = omega (arith, kept.next);
  window = omega (arith, kept.window);
}
