use Rattle.std.proofs.Common.{◌∙◌, ℕ, List, inl, inr, subst}
use Rattle.std.specs.Io.KnownBytes.{Appends}
use Rattle.qq_doctor.proofs.doctor.run_request.Goals as goal

pub returns-in-Ok-write_all-clause-ends : goal.returns-in-Ok-write_all-clause-ends
returns-in-Ok-write_all-clause-ends g c =
    let reported = c.in-Ok.ensures.ok in
    let says = reported.holds.says in
    inr (record {
      setup = reported.setup;
      is = reported.is;
      holds = record {
        found = reported.holds.found;
        read = reported.holds.read;
        verdicts = says.verdicts;
        said = says.said;
        written = inl (
          c.status.ensures says.verdicts says.differs,
          subst (λ (text : List ℕ). Appends (g.O.Sink.written c.args.output.now) (g.O.Sink.written c.write_all.new.out) text)
              (c.as_slice.ensures.value ∙ says.text) c.in-Ok-write_all.ensures.ok,
        );
      };
    })
