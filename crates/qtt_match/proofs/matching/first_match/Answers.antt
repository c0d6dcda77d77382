use Rattle.std.proofs.Common.{◌≡◌, map, Some, None, arith}
use Rattle.std.proofs.lemmas.Grind.{common_steps}
use Rattle.qtt_term.specs.Globals.{families}
use Rattle.qtt_term.specs.View.{terms, side_by_side}
use Rattle.qtt_match.specs.Match.{first_match}
use Rattle.qtt_match.specs.View.{patterns_of}
use Rattle.qtt_match.proofs.Least.{some_of, none_of}
use Rattle.qtt_match.proofs.matching.first_match.Goals as goal

pub returns-then-all_fit-clause-some : goal.returns-then-all_fit-clause-some
returns-then-all_fit-clause-some c =
    let Fs = families c.args.env.now in
    let cs = map patterns_of c.args.clauses.now in
    let vs = side_by_side (terms c.args.values.now) in
    let found : Some c.loop-place.place ≡ first_match Fs cs vs = grind (arith, common_steps) in
    some_of Fs cs vs (Some c.loop-place.place) found

pub returns-then-all_fit-clause-none : goal.returns-then-all_fit-clause-none
returns-then-all_fit-clause-none c =
    let Fs = families c.args.env.now in
    let cs = map patterns_of c.args.clauses.now in
    let vs = side_by_side (terms c.args.values.now) in
    let found : Some c.loop-place.place ≡ first_match Fs cs vs = grind (arith, common_steps) in
    none_of Fs cs vs (Some c.loop-place.place) found

pub returns-clause-some : goal.returns-clause-some
returns-clause-some c =
    let Fs = families c.args.env.now in
    let cs = map patterns_of c.args.clauses.now in
    let vs = side_by_side (terms c.args.values.now) in
    let none : None ≡ first_match Fs cs vs = grind (arith, common_steps) in
    some_of Fs cs vs None none

pub returns-clause-none : goal.returns-clause-none
returns-clause-none c =
    let Fs = families c.args.env.now in
    let cs = map patterns_of c.args.clauses.now in
    let vs = side_by_side (terms c.args.values.now) in
    let none : None ≡ first_match Fs cs vs = grind (arith, common_steps) in
    none_of Fs cs vs None none
