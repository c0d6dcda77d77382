use Rattle.std.proofs.Common.{◌≡◌, ◌∙◌, ◌+◌, ◌++◌, suc, drop, map, ap, rules, arith}
use Rattle.qtt_term.specs.Substitution.{ren, shift}
use Rattle.qtt_term.specs.View.{term}
use Rattle.qtt_unify.specs.View.{all_terms}
use Rattle.qtt_split.specs.Branch.{raised}
use Rattle.qtt_split.specs.Motive.{field_places, indices_with}
use Rattle.qtt_split.specs.Substitution.{stands_for}
use Rattle.qtt_split.specs.Ways.{way_of}
use Rattle.qtt_split.proofs.Waying.{same-way}
use Rattle.qtt_split.proofs.ways.Way.within_fields.Goals as goal

pub returns : goal.returns
returns c =
    let n = c.args.count in
    let w = c.args.self.now in
    let by : c.in_ok-by.by ≡ suc n = omega (arith, c.in_ok-by.ensures) in
    let all : all_terms c.in_ok-raised.field-0.items ≡ raised 1 (all_terms c.in_ok-indices.indices.items) =
    search rules in
    same-way c.in_ok-sum.field-0 (suc n + w.depth) (stands_for c.in_ok-deeper.field-0)
    (λ i. ren (shift (suc n)) (stands_for w.stands i)) (all_terms c.in_ok-raised.field-0.items)
    (raised 1 (indices_with n (term c.args.con) (way_of w))) c.in_ok-field_places.field-0.items
    (field_places 1 n ++ map (shift (suc n)) (drop 1 w.places.items)) 0
    (c.in_ok-sum.ensures ∙ ap (λ m. m + w.depth) by)
    (λ i. c.in_ok-deeper.ensures i ∙ ap (λ m. ren (shift m) (stands_for w.stands i)) by)
    (all ∙ ap (raised 1) c.in_ok-indices.ensures)
    (c.in_ok-field_places.ensures ∙ ap (λ xs. field_places 1 n ++ map (shift (suc n)) xs) c.other_places.ensures)
