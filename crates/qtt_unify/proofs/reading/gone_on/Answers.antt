use Rattle.std.proofs.Common.{◌≡◌, ◌++◌, [], ◌∷◌, length, ap, ◌∙◌, refl, rules, arith}
use Rattle.std.proofs.lemmas.Grind.{common_steps}
use Rattle.qtt_term.specs.declared.term.Term.{the_lemmas}
use Rattle.qtt_term.specs.declared.term.Term.TheVariants as code_term
use Rattle.qtt_term.specs.Term.{Form, node, ◌+++◌}
use Rattle.qtt_term.specs.View.{term, terms, side_by_side}
use Rattle.qtt_unify.proofs.Fields.{counted}
use Rattle.qtt_unify.specs.declared.reading.Pending.{Pending}
use Rattle.qtt_unify.specs.Unread.{con_of}
use Rattle.qtt_unify.proofs.Stack.{stepped, closed-whole, closed-is_read, closed-around, closed-behinds}
use Rattle.qtt_unify.proofs.reading.gone_on.Goals as goal

pub returns-in-Some-pop : goal.returns-in-Some-pop
returns-in-Some-pop c = λ E h w.
    let ps = c.pop.new.self.items in
    let p = c.in-Some.pending in
    let t = c.loop-pending.read in
    let next = c.in-Some-pop.next in
    let old = c.loop-pending.around.items in
    let start = c.args.around.items in
    let q : Pending =
    record { con = p.con; params = p.params; before = c.push.new.self; behind = c.pop-in-Some.new.self } in
    let before : c.push.new.self.items ≡ p.before.items ++ t ∷ [] = grind (arith, common_steps) in
    let behind : p.behind.items ≡ c.pop-in-Some.new.self.items ++ next ∷ [] = c.in-Some-pop.ensures.items in
    let now : c.push-in-Some-pop.new.self.items ≡ ps ++ q ∷ [] = grind (arith, common_steps) in
    stepped E ps p q t next c.args.read old c.push-in-Some-pop.new.self.items start c.in-Some.ensures.items now
    (record { con = refl; params = refl; before = before; behind = behind }) c.loop-pending.invariant.whole
    (c.loop-pending.invariant.read E h w) (c.loop-pending.invariant.around E h w) c.loop-pending.invariant.behinds

pub loop-pending-preserved : goal.loop-pending-preserved
loop-pending-preserved c =
    let ps = c.pop.new.self.items in
    let p = c.in-Some.pending in
    let t = c.loop-pending.read in
    let old = c.loop-pending.around.items in
    let u = code_term.Con p.con p.params c.push.new.self in
    let before : c.push.new.self.items ≡ p.before.items ++ t ∷ [] = grind (arith, common_steps) in
    let form : term u ≡ node (Form.con p.con.family p.con.place (length (terms p.params.items)))
    (side_by_side (terms p.params.items) +++ side_by_side (terms c.push.new.self.items)) = search (rules, the_lemmas) in
    let made : term u ≡ con_of p.con p.params.items (p.before.items ++ t ∷ []) =
    form ∙ counted p.con p.params.items c.push.new.self.items ∙ ap (con_of p.con p.params.items) before in
    let none : p.behind.items ≡ [] = search rules in
    let is : old ≡ ps ++ p ∷ [] = c.in-Some.ensures.items in
    record {
      whole = closed-whole ps p t u old _ is none made c.loop-pending.invariant.whole;
      read = λ E h w. closed-is_read E ps p t u old is made (c.loop-pending.invariant.read E h w)
          (c.loop-pending.invariant.around E h w);
      around = λ E h w. closed-around E ps p old is (c.loop-pending.invariant.around E h w);
      behinds = closed-behinds ps p old _ is c.loop-pending.invariant.behinds;
    }
