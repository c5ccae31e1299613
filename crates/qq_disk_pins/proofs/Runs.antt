-- Calls of which any may have failed are calls of which none has.
use Rattle.std.proofs.Common.{◌≡◌, ℕ, List, [], ◌∷◌, ◌++◌, length, take, refl, sym, ap, subst, ◌∙◌, inl, inr, arith, take_all, Some}
use Rattle.qq_disk.specs.declared.name.FileName.{FileName}
use Rattle.qq_disk.specs.Disk.{Disk, append, sync, content, IsListed}
use Rattle.qq_disk.specs.Crash.{Remains, IsImage}
use Rattle.qq_disk.specs.Calls.{Call, Append, Sync, Remove, apply, after, Spares}
use Rattle.qq_disk.proofs.Crashes.{stays}
use Rattle.qq_disk_pins.specs.Runs.{MayHold, MayHoldAfter, IsAfterSome}

pub may_hold : (d : Disk) (call : Call) → MayHold d call (apply d call)
may_hold d (Append file bytes) =
    inr (length bytes, ap (λ (bs : List ℕ). append d file bs) (sym (take_all (length bytes) bytes (omega arith))))
may_hold d (Sync file) = inr refl
may_hold d (Remove file) = inr refl

after-append : (xs ys : List Call) (d : Disk) → after d (xs ++ ys) ≡ after (after d xs) ys
after-append [] ys d = refl
after-append (call ∷ xs) ys d = after-append xs ys (apply d call)

spares-append : (file : FileName) (xs ys : List Call) → Spares file xs → Spares file ys → Spares file (xs ++ ys)
spares-append file [] ys x y = y
spares-append file (Append other bytes ∷ xs) ys x y = spares-append file xs ys x y
spares-append file (Sync other ∷ xs) ys x y = spares-append file xs ys x y
spares-append file (Remove other ∷ xs) ys x y = (x.0, spares-append file xs ys x.1 y)

spares_first : (file : FileName) (call : Call) (calls : List Call) → Spares file (call ∷ calls)
    → Spares file (call ∷ [])
spares_first file (Append other bytes) calls s = tt
spares_first file (Sync other) calls s = tt
spares_first file (Remove other) calls s = (s.0, tt)

spares_rest : (file : FileName) (call : Call) (calls : List Call) → Spares file (call ∷ calls) → Spares file calls
spares_rest file (Append other bytes) calls s = s
spares_rest file (Sync other) calls s = s
spares_rest file (Remove other) calls s = s.1

no_call : (d : Disk) (calls : List Call) (e : Disk) → e ≡ d → IsAfterSome d calls e
no_call d calls e is = record { done = []; is = is; spares = λ file s. tt }

one_call : (d : Disk) (call : Call) (e : Disk) → MayHold d call e → IsAfterSome d (call ∷ []) e
one_call d (Append file bytes) e (inl is) = no_call d (Append file bytes ∷ []) e is
one_call d (Append file bytes) e (inr (count, is)) =
    record { done = Append file (take count bytes) ∷ []; is = is; spares = λ other s. tt }
one_call d (Sync file) e (inl is) = no_call d (Sync file ∷ []) e is
one_call d (Sync file) e (inr is) = record { done = Sync file ∷ []; is = is; spares = λ other s. tt }
one_call d (Remove file) e (inl is) = no_call d (Remove file ∷ []) e is
one_call d (Remove file) e (inr is) = record { done = Remove file ∷ []; is = is; spares = λ other s. s }

join : (d mid e : Disk) (call : Call) (calls : List Call) → IsAfterSome d (call ∷ []) mid → IsAfterSome mid calls e
    → IsAfterSome d (call ∷ calls) e
join d mid e call calls one more = record {
  done = one.done ++ more.done;
  is = more.is ∙ ap (λ (x : Disk). after x more.done) one.is ∙ sym (after-append one.done more.done d);
  spares = λ file s.
      spares-append file one.done more.done (one.spares file (spares_first file call calls s))
      (more.spares file (spares_rest file call calls s));
}

pub after_some : (d : Disk) (calls : List Call) (e : Disk) → MayHoldAfter d calls e → IsAfterSome d calls e
after_some d [] e is = no_call d [] e is
after_some d (call ∷ calls) e (mid, one, more) =
    join d mid e call calls (one_call d call mid one) (after_some mid calls e more)

pub stays_whatever_fails : (d : Disk) (file : FileName) (calls : List Call) (e : Disk) (i : Remains)
    → IsListed d file → Spares file calls → MayHoldAfter (sync d file) calls e → IsImage e i
    → (more : List ℕ) × (i file ≡ Some (content d file ++ more))
stays_whatever_fails d file calls e i here spares held image =
    let some = after_some (sync d file) calls e held in
    stays d file some.done i here (some.spares file spares) (subst (λ (x : Disk). IsImage x i) some.is image)
