use Rattle.std.proofs.Common.{◌≡◌, ◌-◌, ◌++◌, ◌∷◌, [], true, false, map, length, sym, refl}
use Rattle.std.proofs.lemmas.List.{map_push}
use Rattle.std.proofs.lemmas.Result.{err_from_is_err_and}
use Rattle.qtt_phrase.specs.Reading.{begins, many_at, making_at}
use Rattle.qtt_syntax.specs.View.{argument_of}
use Rattle.qtt_syntax.specs.declared.expr.Argument.TheVariants as marked
use Rattle.qtt_grammar.specs.Classes.{starts_atom}
use Rattle.qtt_grammar.specs.Grammar.{of, written_of}
use Rattle.qtt_grammar.specs.Readers.{atom_at}
use Rattle.qtt_grammar.specs.View.{inside, with_front}
use Rattle.qtt_grammar.proofs.Loops.{alike_ends, alike_stops, alike_goes, made_stops}
use Rattle.qtt_grammar.proofs.application.atoms.Goals as goal

pub returns-then-not-begins_atom : goal.returns-then-not-begins_atom
returns-then-not-begins_atom g c =
    let b : begins (of starts_atom) c.atoms.rest.now ≡ false = sym c.if-not-begins_atom.ensures in
    alike_ends (of starts_atom) (making_at written_of (inside atom_at c.args.level.pass c.args.level.left))
    (map argument_of c.atoms.found.items) c.atoms.rest.now
    (with_front (map argument_of c.args.found.items)
    (many_at (of starts_atom) (making_at written_of (inside atom_at c.args.level.pass c.args.level.left))
    c.args.ahead.now)) (length c.args.ahead.now - c.atoms.counter) b c.atoms.invariant

pub returns-in_err-one : goal.returns-in_err-one
returns-in_err-one g c =
    let b : begins (of starts_atom) c.atoms.rest.now ≡ true = sym c.if-not-begins_atom.ensures in
    let e = err_from_is_err_and c.from_residual.result c.from_residual.ensures.1 in
    rw (e.1, e.2) (alike_stops (of starts_atom)
    (making_at written_of (inside atom_at c.args.level.pass c.args.level.left))
    (map argument_of c.atoms.found.items) c.atoms.rest.now
    (with_front (map argument_of c.args.found.items)
    (many_at (of starts_atom) (making_at written_of (inside atom_at c.args.level.pass c.args.level.left))
    c.args.ahead.now)) c.in_err-one.field-0.0 (length c.args.ahead.now) c.atoms.counter c.atoms-test.true b
    (made_stops written_of (inside atom_at c.args.level.pass c.args.level.left) c.atoms.rest.now
    c.in_err-one.field-0.0 c.in_err-one.ensures) c.atoms.invariant)

pub atoms-preserved : goal.atoms-preserved
atoms-preserved g c =
    let b : begins (of starts_atom) c.atoms.rest.now ≡ true = sym c.if-not-begins_atom.ensures in
    let e : map argument_of c.push.new.self.items ≡ (map argument_of c.atoms.found.items) ++ argument_of
    (marked.Written c.in_ok-one.one) ∷ [] =
    rw c.in_ok-push.ensures.items (map_push argument_of c.atoms.found.items (marked.Written c.in_ok-one.one))
    in
    rw e (alike_goes (of starts_atom) (making_at written_of (inside atom_at c.args.level.pass c.args.level.left))
    (map argument_of c.atoms.found.items) c.atoms.rest.now
    (with_front (map argument_of c.args.found.items)
    (many_at (of starts_atom) (making_at written_of (inside atom_at c.args.level.pass c.args.level.left))
    c.args.ahead.now)) (length c.args.ahead.now) c.atoms.counter c.in_ok-one.after.now
    (argument_of (marked.Written c.in_ok-one.one)) c.atoms-test.true b
    (rw c.in_ok-one.ensures refl) c.atoms.invariant)
