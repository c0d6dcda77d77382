-- The program, derived and run.
use Rattle.std.proofs.Common.{inl, ◌≡◌, codes, [], ◌∷◌, Ok, refl, sym, ap, subst}
use Rattle.std.specs.Prelude.{false, true}
use Rattle.qtt_term.specs.Programs.{item, many, io_unit}
use Rattle.qtt_load.specs.Reading.{read_in}
use Rattle.qtt_words.specs.Asked.{Work}
use Rattle.qtt_graph.specs.Rows.{M}
use Rattle.qtt_build.specs.Build.{build}
use Rattle.qtt_build.specs.Judged.{DeclaresBuild}
use Rattle.qtt_build.specs.Laws.{BuildLaws}
use Rattle.qtt_outcome.specs.Stop.{◌>>=◌ as ◌in_calls◌}
use Rattle.qtt_outcome.specs.Outcome.{Outcome, outcome_of, put, worked, line}
use Rattle.qtt_outcome.specs.Headline.{IsGoing, came, AcceptedIsDerived, HasDerivations}
use Rattle.qtt_outcome.specs.Rows.{with_tape}
use Rattle.qtt_worked.specs.Handle.{texts, runs, built, core, HandleAsWorked}
use Rattle.qtt_worked.proofs.Calls.{on_calls, on_texts}

built_so : build (read_in texts) M 100 ≡ Ok built
unfolding on_texts
built_so = refl

put_so : outcome_of (put [] (runs 10) built (Work.run M)) ≡ with_tape 0 [] false
unfolding on_calls
put_so = refl

held_so : outcome_of (put [] (runs 9) built (Work.run M)) ≡ with_tape 3 (line (codes "step bound reached")) true
unfolding on_calls
held_so = refl

ends : came texts [] (runs 10) ≡ with_tape 0 [] false
unfolding worked ◌in_calls◌
ends = rw built_so put_so

held : came texts [] (runs 9) ≡ with_tape 3 (line (codes "step bound reached")) true
unfolding worked ◌in_calls◌
held = rw built_so held_so

is_derived : BuildLaws → AcceptedIsDerived → HasDerivations texts (runs 10) built
is_derived laws accepted =
    let going : IsGoing (came texts [] (runs 10)).status = inl (ap (λ (o : Outcome). o.status) ends) in
    let B = accepted texts [] (runs 10) going in
    let declared : DeclaresBuild (read_in texts) M built = laws.judged.built (read_in texts) M 100 built built_so in
    subst (HasDerivations texts (runs 10)) (sym (B.1.alone built declared)) B.1

pub handle-as-worked : BuildLaws → AcceptedIsDerived → HandleAsWorked
unfolding on_calls
handle-as-worked laws accepted =
    let derived = is_derived laws accepted in
    record {
      derived = derived;
      follows = derived.clauses (item 0) core refl;
      typed = (derived.formed.definitions (item 0) (many io_unit core) refl).typed core refl;
      ends = ends;
      ended = refl;
      done = refl;
      closed = (false ∷ [], refl, (refl, tt));
      held = held;
    }
