-- What an export comes to in a run.
use Rattle.std.proofs.Common.{◌≡◌, ◌⊎◌, ◌∙◌, ℕ, true, List, [], ◌++◌, Option, Some, None, Result, Ok, Err, ap, append-nil, inl, inr, refl, subst, sym, arith}
use Rattle.std.specs.Prelude.{is_some}
use Rattle.std.specs.Io.KnownBytes.{Appends}
use Rattle.qq_ports.specs.Shelf.{Gives}
use Rattle.qq_ports.specs.Streams.{ShelfFails, ShelfState, SinkFails, SinkState, Writes, with_written}
use Rattle.qq_route.specs.declared.setup.Made.{Made}
use Rattle.qq_route.specs.declared.setup.Setup.{Setup}
use Rattle.qq_route.specs.Setup.{SetupState, state_of}
use Rattle.qq_defs.specs.declared.fault.DefsFault.{DefsFault}
use Rattle.qq_defs.specs.declared.fault.DefsFault.TheVariants.{Json}
use Rattle.qq_words.specs.declared.options.Options.{Options}
use Rattle.qq_cluster_run.specs.Definitions.{Files, IsMadeBy, IsSetupOver, MayNotRead, made_text, read_export, refused_export}
use Rattle.qq_cluster_run.specs.Endings.{Ending, no_memory}
use Rattle.qq_cluster_run.specs.Runs.{Closes, HasMade, HasRun, IsBehindMade, IsSetup}
use Rattle.qq_cluster_run.specs.Statuses.{Claimed, HasEnded, HasEndedOver, Met, SinkRose, Account, first_streams, last_streams, Told, Done, Refused, ReadFault, WriteFault, YardFault, Damaged, Lost, Limited, NoMemory, Spent}
use Rattle.qq_cluster_run.proofs.Statuses.{told}

-- ---- the setup

-- whatever files there are
any-file : (o : Option (List ℕ)) (files : Files) (options : Options) (v : SetupState) → IsMadeBy o files options v
    → IsMadeBy o None options v
any-file None files options v is = is
any-file (Some name) files options v (bytes, gives, is) = (bytes, tt, is)

is-any : (files : Files) (options : Options) (s : Setup) → IsSetupOver files options s → IsSetup options s
is-any files options s is = any-file options.definitions files options (state_of s) is

-- ---- the line of what was made

-- what stands behind it
behind : (n : ℕ) (options : Options) (files : Files) (s : Account) (setup : Setup) (made : Option Made)
    → IsSetupOver files options setup → setup.made ≡ made
    → IsBehindMade n setup (first_streams s) (last_streams s) (Met s) (Claimed s)
    → HasEnded n options (record s { old = s.old ++ made_text made })
behind n options files s setup made is_setup is so = by so.mid so.made so.ends
  where
    by : (mid : Option (List ℕ)) → Appends (Some s.old) mid (made_text setup.made)
        → HasRun n setup (with_written mid (first_streams s)) (last_streams s) (Met s) (Claimed s)
        → HasEnded n options (record s { old = s.old ++ made_text made })
    by None grown ends = absurd grown
    by (Some mid) grown ends = inr (record {
      setup = setup;
      is_setup = is-any files options setup is_setup;
      ends = subst
          (λ (l : List ℕ). HasRun n setup (with_written (Some l) (first_streams s)) (last_streams s) (Met s) (Claimed s))
          (grown ∙ ap (λ (m : Option Made). s.old ++ made_text m) is) ends;
    })

-- ---- without an export

none-made : (o : Option Made) → o ≡ None → is_some o ≡ true → ⊥
none-made None is some = absurd cc
none-made (Some made) is some = absurd cc

plain-setup : (o : Option (List ℕ)) (files : Files) (options : Options) (v : SetupState) → o ≡ None
    → IsMadeBy o files options v → v.made ≡ None
plain-setup None files options v none is = ap (λ (w : SetupState). w.made) is
plain-setup (Some name) files options v none is = absurd cc

plain-may : (o : Option (List ℕ)) (first last : ShelfState) (options : Options) (ending : Ending) → o ≡ None
    → (ending ≡ no_memory) ⊎ MayNotRead o first last options ending → ending ≡ no_memory
plain-may o first last options ending none (inl is) = is
plain-may None first last options ending none (inr may) = absurd may
plain-may (Some name) first last options ending none (inr may) = absurd cc

old-again : (n : ℕ) (options : Options) (s : Account) → HasEnded n options (record s { old = s.old ++ [] })
    → HasEnded n options s
old-again n options s so =
    subst (λ (l : List ℕ). HasEnded n options (record s { old = l })) (append-nil s.old) so

pub plain-ends : (n : ℕ) (options : Options) (first last : ShelfState) (s : Account) → options.definitions ≡ None
    → HasEndedOver n options first last s → HasEnded n options s
plain-ends n options first last s none (inl unopened) = inl (record {
  ending = unopened.ending;
  may = plain-may options.definitions first last options unopened.ending none unopened.may;
  keeps = unopened.keeps;
  closes = unopened.closes;
})
plain-ends n options first last s none (inr script) = by script.ends
  where
    made : script.setup.made ≡ None
    made = plain-setup options.definitions first.files options (state_of script.setup) none script.is_setup

    by : HasMade n script.setup (first_streams s) (last_streams s) (Met s) (Claimed s) → HasEnded n options s
    by (inl cut) = absurd (none-made script.setup.made made cut.some)
    by (inr so) = old-again n options s (behind n options first.files s script.setup None script.is_setup made so)

-- ---- what the file is

same-file : (files : List ℕ → Option (List ℕ)) (name bytes other : List ℕ) → files name ≡ Some bytes
    → files name ≡ Some other → other ≡ bytes
same-file files name bytes other is gives = let e : Some other ≡ Some bytes = sym gives ∙ is in cc

-- whatever the file is read as
reads-as : (o : Option (List ℕ)) (name : List ℕ) (files : List ℕ → Option (List ℕ)) (options : Options)
    (bytes : List ℕ) (v : SetupState) → o ≡ Some name → files name ≡ Some bytes → IsMadeBy o (Some files) options v
    → read_export options bytes ≡ Ok v
reads-as None name files options bytes v named is made = absurd cc
reads-as (Some other) name files options bytes v named is (found, gives, reads) =
    let same : other ≡ name = cc in
    let file : files name ≡ Some found = subst (λ (l : List ℕ). files l ≡ Some found) same gives in
    subst (λ (l : List ℕ). read_export options l ≡ Ok v) (same-file files name bytes found is file) reads

-- why it isn't begun
data IsWhy (n : ℕ) (shelf sink : Type 0) (options : Options) (bytes : List ℕ) : Type 0 where
  OfExport : (fault : DefsFault) → read_export options bytes ≡ Err fault → n ≡ (refused_export fault).status
      → IsWhy n shelf sink options bytes
  OfShelf : n ≡ 5 → shelf → IsWhy n shelf sink options bytes
  OfSink : n ≡ 6 → sink → IsWhy n shelf sink options bytes
  OfMemory : n ≡ 12 → IsWhy n shelf sink options bytes

of-ending : (n : ℕ) (o : Option (List ℕ)) (name : List ℕ) (first last : ShelfState) (files : List ℕ → Option (List ℕ))
    (sink : Type 0) (options : Options) (bytes : List ℕ) (ending : Ending) → first.files ≡ Some files → o ≡ Some name
    → files name ≡ Some bytes → (ending ≡ no_memory) ⊎ MayNotRead o first last options ending → n ≡ ending.status
    → IsWhy n (ShelfFails first last) sink options bytes
of-ending n o name first last files sink options bytes ending shows named is (inl e) status =
    OfMemory (status ∙ ap (λ (x : Ending). x.status) e)
of-ending n None name first last files sink options bytes ending shows named is (inr may) status = absurd may
of-ending n (Some other) name first last files sink options bytes ending shows named is (inr (inl (rose, e))) status =
    OfShelf (status ∙ ap (λ (x : Ending). x.status) e) rose
of-ending n (Some other) name first last files sink options bytes ending shows named is (inr (inr so)) status =
    let same : other ≡ name = cc in
    let gives : files other ≡ Some so.bytes = subst (λ (fs : Files). Gives fs other so.bytes) shows so.gives in
    let file : files name ≡ Some so.bytes = subst (λ (l : List ℕ). files l ≡ Some so.bytes) same gives in
    OfExport so.fault
    (subst (λ (l : List ℕ). read_export options l ≡ Err so.fault) (same-file files name bytes so.bytes is file) so.reads)
    (status ∙ ap (λ (x : Ending). x.status) so.is)

why : (n : ℕ) (o : Option (List ℕ)) (name : List ℕ) (first last : ShelfState) (files : List ℕ → Option (List ℕ))
    (a b : SinkState) (options : Options) (bytes : List ℕ) (ending : Ending) (Stands : List ℕ → Type 0)
    → first.files ≡ Some files → o ≡ Some name → files name ≡ Some bytes
    → (ending ≡ no_memory) ⊎ MayNotRead o first last options ending → Closes n ending a b Stands
    → IsWhy n (ShelfFails first last) (SinkFails a b) options bytes
why n o name first last files a b options bytes ending Stands shows named is may (inl (status, so)) =
    of-ending n o name first last files (SinkFails a b) options bytes ending shows named is may status
why n o name first last files a b options bytes ending Stands shows named is may (inr (status, rose, so)) =
    OfSink status rose

-- ---- with one

-- what else a run may have ended by
abbrev Else : ℕ → (first last : ShelfState) → Account → Type 0
Else n first last s =
    ((n ≡ 5) × ShelfFails first last) ⊎ (((n ≡ 6) × SinkRose s) ⊎ (n ≡ 12))

abbrev fault_in : Result SetupState DefsFault → DefsFault
fault_in (Ok v) = Json
fault_in (Err fault) = fault

abbrev setup_or : SetupState → Result SetupState DefsFault → SetupState
setup_or other (Ok v) = v
setup_or other (Err fault) = other

either : (read : Result SetupState DefsFault) (v : SetupState) (fault : DefsFault) → read ≡ Ok v → read ≡ Err fault → ⊥
either (Ok w) v fault is reads = absurd cc
either (Err other) v fault is reads = absurd cc

one-fault : (options : Options) (bytes : List ℕ) (fault other : DefsFault) → read_export options bytes ≡ Err fault
    → read_export options bytes ≡ Err other → other ≡ fault
one-fault options bytes fault other is reads = ap fault_in (sym reads ∙ is)

-- of the shelf that shows these files
made-over : (first : ShelfState) (files : List ℕ → Option (List ℕ)) (options : Options) (s : Setup)
    → first.files ≡ Some files → IsSetupOver first.files options s → IsSetupOver (Some files) options s
made-over first files options s shows is = subst (λ (fs : Files). IsSetupOver fs options s) shows is

pub always-refused : (n : ℕ) (options : Options) (first last : ShelfState) (files : List ℕ → Option (List ℕ))
    (s : Account) (name bytes : List ℕ) (fault : DefsFault) → first.files ≡ Some files
    → HasEndedOver n options first last s → options.definitions ≡ Some name → files name ≡ Some bytes
    → read_export options bytes ≡ Err fault → (n ≡ (refused_export fault).status) ⊎ Else n first last s
always-refused n options first last files s name bytes fault shows (inl unopened) named is reads =
    by (why n options.definitions name first last files (first_streams s).sink (last_streams s).sink options bytes
    unopened.ending (Writes (first_streams s).sink (last_streams s).sink) shows named is unopened.may unopened.closes)
  where
    by : IsWhy n (ShelfFails first last) (SinkRose s) options bytes
        → (n ≡ (refused_export fault).status) ⊎ Else n first last s
    by (OfExport other found status) =
        inl (status ∙ ap (λ (f : DefsFault). (refused_export f).status) (one-fault options bytes fault other reads found))
    by (OfShelf status rose) = inr (inl (status, rose))
    by (OfSink status rose) = inr (inr (inl (status, rose)))
    by (OfMemory status) = inr (inr (inr status))
always-refused n options first last files s name bytes fault shows (inr script) named is reads =
    let made = reads-as options.definitions name files options bytes (state_of script.setup) named is
    (made-over first files options script.setup shows script.is_setup) in
    absurd (either (read_export options bytes) (state_of script.setup) fault made reads)

pub made-first : (n : ℕ) (options : Options) (first last : ShelfState) (files : List ℕ → Option (List ℕ)) (s : Account)
    (name bytes : List ℕ) (v : SetupState) → first.files ≡ Some files → HasEndedOver n options first last s
    → options.definitions ≡ Some name → files name ≡ Some bytes → read_export options bytes ≡ Ok v
    → HasEnded n options (record s { old = s.old ++ made_text v.made }) ⊎ Else n first last s
made-first n options first last files s name bytes v shows (inl unopened) named is reads =
    by (why n options.definitions name first last files (first_streams s).sink (last_streams s).sink options bytes
    unopened.ending (Writes (first_streams s).sink (last_streams s).sink) shows named is unopened.may unopened.closes)
  where
    by : IsWhy n (ShelfFails first last) (SinkRose s) options bytes
        → HasEnded n options (record s { old = s.old ++ made_text v.made }) ⊎ Else n first last s
    by (OfExport other found status) =
        absurd (either (read_export options bytes) v other reads found)
    by (OfShelf status rose) = inr (inl (status, rose))
    by (OfSink status rose) = inr (inr (inl (status, rose)))
    by (OfMemory status) = inr (inr (inr status))
made-first n options first last files s name bytes v shows (inr script) named is reads = by script.ends
  where
    same : state_of script.setup ≡ v
    same =
        ap (setup_or v)
        (sym (reads-as options.definitions name files options bytes (state_of script.setup) named is
        (made-over first files options script.setup shows script.is_setup))
        ∙ reads)

    by : HasMade n script.setup (first_streams s) (last_streams s) (Met s) (Claimed s)
        → HasEnded n options (record s { old = s.old ++ made_text v.made }) ⊎ Else n first last s
    by (inl cut) = inr (inr (inl (cut.status_is, cut.rose)))
    by (inr so) =
        inl (behind n options first.files s script.setup v.made script.is_setup
        (ap (λ (w : SetupState). w.made) same) so)

-- ---- status 3

no-three : (options : Options) (s : Account) → Told 3 options s → ⊥
no-three options s (Done is so) = omega (arith, is)
no-three options s (Refused is so) = omega (arith, is)
no-three options s (ReadFault is so) = omega (arith, is)
no-three options s (WriteFault is rose so) = omega (arith, is)
no-three options s (YardFault is so) = omega (arith, is)
no-three options s (Damaged is so) = omega (arith, is)
no-three options s (Lost is so) = omega (arith, is)
no-three options s (Limited is so) = omega (arith, is)
no-three options s (NoMemory is so) = omega (arith, is)
no-three options s (Spent is so) = omega (arith, is)

abbrev IsThree : Options → (List ℕ → Option (List ℕ)) → Account → Type 0
IsThree options files s =
    (name : List ℕ) × ((bytes : List ℕ) × ((fault : DefsFault) × (options.definitions ≡ Some name)
    × (files name ≡ Some bytes) × (read_export options bytes ≡ Err fault) × (s.rest ≡ s.bytes)
    × (s.new ≡ s.old ++ (refused_export fault).text)))

three-by : (o : Option (List ℕ)) (options : Options) (first last : ShelfState) (files : List ℕ → Option (List ℕ))
    (s : Account) (ending : Ending) → first.files ≡ Some files → options.definitions ≡ o
    → (ending ≡ no_memory) ⊎ MayNotRead o first last options ending → 3 ≡ ending.status → s.rest ≡ s.bytes
    → s.new ≡ s.old ++ ending.text → IsThree options files s
three-by o options first last files s ending shows named (inl e) status rest grown =
    let same : 3 ≡ 12 = status ∙ ap (λ (x : Ending). x.status) e in absurd (omega (arith, same))
three-by None options first last files s ending shows named (inr may) status rest grown = absurd may
three-by (Some name) options first last files s ending shows named (inr (inl (rose, e))) status rest grown =
    let same : 3 ≡ 5 = status ∙ ap (λ (x : Ending). x.status) e in absurd (omega (arith, same))
three-by (Some name) options first last files s ending shows named (inr (inr so)) status rest grown =
    let gives : files name ≡ Some so.bytes = subst (λ (fs : Files). Gives fs name so.bytes) shows so.gives in (
      name,
      (so.bytes, (so.fault, named, gives, so.reads, rest, grown ∙ ap (λ (x : Ending). s.old ++ x.text) so.is)),
    )

pub refused-by : (options : Options) (first last : ShelfState) (files : List ℕ → Option (List ℕ)) (s : Account)
    → first.files ≡ Some files → HasEndedOver 3 options first last s
    → (name : List ℕ) × ((bytes : List ℕ) × ((fault : DefsFault) × (options.definitions ≡ Some name)
    × (files name ≡ Some bytes) × (read_export options bytes ≡ Err fault) × (s.rest ≡ s.bytes)
    × (s.new ≡ s.old ++ (refused_export fault).text)))
refused-by options first last files s shows (inl unopened) = by unopened.closes
  where
    by : Closes 3 unopened.ending (first_streams s).sink (last_streams s).sink (λ more. s.new ≡ s.old ++ more)
        → IsThree options files s
    by (inl (status, grown)) =
        three-by options.definitions options first last files s unopened.ending shows refl unopened.may status
        unopened.keeps grown
    by (inr (status, rose, part)) = absurd (omega (arith, status))
refused-by options first last files s shows (inr script) = by script.ends
  where
    by : HasMade 3 script.setup (first_streams s) (last_streams s) (Met s) (Claimed s) → IsThree options files s
    by (inl cut) = absurd (let e = cut.status_is in omega (arith, e))
    by (inr so) =
        let ended = behind 3 options first.files s script.setup script.setup.made script.is_setup refl so in
        absurd (no-three options _ (told 3 options _ ended))
