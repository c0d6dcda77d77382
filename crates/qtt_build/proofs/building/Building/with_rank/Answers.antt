use Rattle.std.proofs.Common.{◌≡◌, suc, ◌+◌, length, map, sym, ap, ◌∙◌, subst, arith}
use Rattle.std.proofs.lemmas.List.{length-map}
use Rattle.qtt_term.specs.Entries.{Entries, entries}
use Rattle.qtt_build.specs.Built.{all_adopted}
use Rattle.qtt_module.specs.TextCalls.{accepted_of}
use Rattle.qtt_build.specs.Parts.{OnlyBelow}
use Rattle.qtt_build.proofs.Numbers.{below-later, all-adopted-below}
use Rattle.qtt_build.proofs.building.Building.with_rank.Goals as goal

pub invariant_of-result : goal.invariant_of-result
invariant_of-result c =
    let k = suc c.args.self.order.len in
    let As = map accepted_of c.args.rank.items in
    let H = c.adopt_all.new.globals in
    let all : entries H ≡ all_adopted (entries c.args.self.globals) As =
    c.in_ok-adopt_all.ensures
    ∙ ap (λ rs. all_adopted (entries c.args.self.globals) (map accepted_of rs)) c.deref.ensures.value in
    record {
      below = below-later (k + length As) (suc c.append.new.self.len) (entries H)
          (omega (arith, length-map c.args.rank.items accepted_of, c.in_ok-append.ensures.len, c.args.rank.ok.0))
          (subst (λ (G : Entries). OnlyBelow (k + length As) G) (sym all)
          (all-adopted-below k (entries c.args.self.globals) As c.args.self.below c.requires));
    }
