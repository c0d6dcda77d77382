use Rattle.std.proofs.Common.{◌≡◌, ◌++◌, ◌∷◌, [], length, map, slice_get, Some, refl, ap, sym, ◌∙◌, arith}
use Rattle.std.proofs.lemmas.Grind.{common_steps}
use Rattle.std.proofs.lemmas.List.{length-map, map-append}
use Rattle.std.proofs.lemmas.Option.{slice_get_read}
use Rattle.qtt_term.specs.declared.term.Term.{the_lemmas}
use Rattle.qtt_term.specs.Term.{Call}
use Rattle.qtt_term.specs.View.{term, terms, side_by_side}
use Rattle.qtt_envconv.specs.Closures.{closure, values}
use Rattle.qtt_envconv.specs.Shapes.{literal}
use Rattle.qtt_envconv.proofs.Framing.{past-next, past-last}
use Rattle.qtt_envconv.proofs.frame.Frame.past.Goals as goal

pub returns-in-Some : goal.returns-in-Some
returns-in-Some c =
    let f = c.args.self in
    let p = c.in-Prim in
    let t = term f.closure.code.now in
    let all = c.push.new.self in
    let is : t ≡ Call p.field-0 (side_by_side (terms p.arguments.items)) =
    grind (arith, common_steps, the_lemmas) in
    let after : map literal all.items ≡ map literal f.literals.items ++ literal c.args.literal ∷ [] =
    ap (map literal) c.in_ok-push-in-Prim.ensures.items ∙ map-append literal f.literals.items (c.args.literal ∷ []) in
    let counts : c.len-place.result ≡ length (map literal all.items) =
    omega (arith, c.len-place.ensures, all.ok.0, length-map all.items literal) in
    let looked = c.in-Some.ensures.lookup in
    let at : slice_get p.arguments.items c.len-place.result ≡ Some c.in-Some.next.now =
    ap (λ ts. slice_get ts c.len-place.result) (sym c.deref.ensures.value)
    ∙ ap (slice_get c.deref.result.now) (c.len-place.ensures ∙ sym c.len.ensures)
    ∙ slice_get_read c.deref.result.now (length c.deref.result.now) c.len.result c.in-Some.next.now refl
    looked.3.0 looked.1 in
    past-next (values f.closure.values.now) t p.field-0 p.arguments.items c.in-Some.next.now (closure c.at.result)
    (map literal f.literals.items) (map literal all.items) (literal c.args.literal) f.place c.len-place.result
    is c.requires.1 after counts at c.at.ensures

pub returns-in-None : goal.returns-in-None
returns-in-None c =
    let f = c.args.self in
    let p = c.in-Prim in
    let t = term f.closure.code.now in
    let all = c.push.new.self in
    let is : t ≡ Call p.field-0 (side_by_side (terms p.arguments.items)) =
    grind (arith, common_steps, the_lemmas) in
    let after : map literal all.items ≡ map literal f.literals.items ++ literal c.args.literal ∷ [] =
    ap (map literal) c.in_ok-push-in-Prim.ensures.items ∙ map-append literal f.literals.items (c.args.literal ∷ []) in
    past-last (values f.closure.values.now) t p.field-0 p.arguments.items
    (map literal f.literals.items) (map literal all.items) (literal c.args.literal) f.place (length all.items)
    is c.requires.1 after (sym (length-map all.items literal))
    (omega (arith, c.in-None.ensures.lookup.3, ap length c.deref.ensures.value, c.len.ensures, all.ok.0))
