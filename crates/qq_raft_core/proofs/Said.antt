-- Messages that are said one after another.
use Rattle.std.proofs.Common.{◌≡◌, ℕ, ◌+◌, ◌<◌, Bool, true, false, cond, List, [], ◌∷◌, ◌++◌, length, take, get_or, map, refl, sym, ap, ◌∙◌, append_assoc}
use Rattle.std.specs.Prelude.{nat_le}
use Rattle.std.proofs.lemmas.List.{append-nil, map-append, take_more}
use Rattle.qq_raft_msg.specs.declared.rpc.Rpc.{Rpc}
use Rattle.qq_raft_model.specs.declared.peer.Peer.{Peer}
use Rattle.qq_raft_model.specs.State.{Server, wait, say_all, say}
use Rattle.qq_raft_model.specs.Leading.{ask}

-- what is said changes only what is to be taken
pub said : {A : Type 0} (f : Server → A) (rpcs : List Rpc) (s : Server)
    → f (record s { out = s.out ++ rpcs }) ≡ f s
    → f (record s { waiting = s.waiting ++ map (wait s.op) rpcs }) ≡ f s
    → f (say_all rpcs s) ≡ f s
unfolding say_all
said {A} f rpcs s out waiting = by (nat_le s.op s.noticed)
  where
    by : (b : Bool) → f (cond b (record s { out = s.out ++ rpcs })
        (record s { waiting = s.waiting ++ map (wait s.op) rpcs })) ≡ f s
    by true = out
    by false = waiting

pub nothing-said : (s : Server) → say_all [] s ≡ s
unfolding say_all
nothing-said s = by (nat_le s.op s.noticed)
  where
    by : (b : Bool) → cond b (record s { out = s.out ++ [] }) (record s { waiting = s.waiting ++ [] }) ≡ s
    by true = ap (λ out. record s { out = out }) (append-nil s.out)
    by false = ap (λ waiting. record s { waiting = waiting }) (append-nil s.waiting)

-- one message more
pub said-more : (rpcs : List Rpc) (rpc : Rpc) (s : Server) → say rpc (say_all rpcs s) ≡ say_all (rpcs ++ rpc ∷ []) s
unfolding say_all
said-more rpcs rpc s = by (nat_le s.op s.noticed) refl
  where
    by : (b : Bool) → nat_le s.op s.noticed ≡ b
        → say rpc (cond b (record s { out = s.out ++ rpcs })
        (record s { waiting = s.waiting ++ map (wait s.op) rpcs }))
        ≡ cond b (record s { out = s.out ++ (rpcs ++ rpc ∷ []) })
        (record s { waiting = s.waiting ++ map (wait s.op) (rpcs ++ rpc ∷ []) })
    by true e = rw e (ap (λ out. record s { out = out }) (append_assoc s.out rpcs (rpc ∷ [])))
    by false e = rw e (ap (λ waiting. record s { waiting = waiting })
        (append_assoc s.waiting (map (wait s.op) rpcs) (wait s.op rpc ∷ [])
        ∙ ap (λ ws. s.waiting ++ ws) (sym (map-append (wait s.op) rpcs (rpc ∷ [])))))

pub ask-said : (rpcs : List Rpc) (s : Server) (p : Peer) → ask (say_all rpcs s) p ≡ ask s p
ask-said rpcs s p = said (λ t. ask t p) rpcs s refl refl

-- one member more is asked
pub asked-more : (first now new : Server) (place : ℕ) (p : Peer) (rpc : Rpc)
    → now ≡ say_all (map (ask first) (take place first.peers)) first → new ≡ say rpc now → rpc ≡ ask now p
    → p ≡ get_or now.peers place p → place < length first.peers
    → new ≡ say_all (map (ask first) (take (place + 1) first.peers)) first
asked-more first now new place p rpc so_far done asks is lt =
    let rpcs = map (ask first) (take place first.peers) in
    let peers : now.peers ≡ first.peers = ap (λ (s : Server). s.peers) so_far ∙ said (λ s. s.peers) rpcs first refl refl in
    let same : p ≡ get_or first.peers place p = is ∙ ap (λ ps. get_or ps place p) peers in
    let asked : rpc ≡ ask first p = asks ∙ ap (λ (s : Server). ask s p) so_far ∙ ask-said rpcs first p in
    done
    ∙ ap (λ (r : Rpc). say r now) asked
    ∙ ap (λ (s : Server). say (ask first p) s) so_far
    ∙ said-more rpcs (ask first p) first
    ∙ ap (λ rs. say_all rs first) (
    ap (λ (q : Peer). rpcs ++ ask first q ∷ []) same
    ∙ sym (ap (map (ask first)) (take_more first.peers place p lt)
    ∙ map-append (ask first) (take place first.peers) (get_or first.peers place p ∷ [])))

pub count-said : (rpcs : List Rpc) (s t : Server) → t ≡ say_all rpcs s → length t.peers ≡ length s.peers
count-said rpcs s t e = ap (λ (u : Server). length u.peers) e ∙ said (λ u. length u.peers) rpcs s refl refl
