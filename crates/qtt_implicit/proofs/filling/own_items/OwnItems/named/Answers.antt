use Rattle.std.proofs.Common.{arith, ◌∙◌, sym, ap, subst, Some}
use Rattle.std.specs.Prelude.{option_map}
use Rattle.std.specs.Option.{option_copied}
use Rattle.qtt_implicit.specs.Signatures.{signature_of}
use Rattle.qtt_implicit.specs.OwnItems.{place_named}
use Rattle.qtt_implicit.proofs.OwnNames.{Stands, stands}
use Rattle.qtt_implicit.proofs.filling.own_items.OwnItems.named.Goals as goal

pub returns-in_err-place : goal.returns-in_err-place
returns-in_err-place c =
    let self = c.args.self.now in
    let name = c.as_str.ensures.value in
    let placed = ap (place_named self.items.items) (sym name) ∙ sym (self.found c.as_str.result.now) ∙
    sym c.get.ensures.value ∙ ap option_copied c.in_err-place.was in
    let s = subst (Stands self.items.items c.args.name.now) placed (stands self.items.items c.args.name.now) in
    ap (option_map signature_of) c.from_residual.ensures ∙ sym s

pub index-requires : goal.index-requires
index-requires c =
    let self = c.args.self.now in
    let name = c.as_str.ensures.value in
    let placed = ap (place_named self.items.items) (sym name) ∙ sym (self.found c.as_str.result.now) ∙
    sym c.get.ensures.value ∙ ap option_copied c.in_ok-place.was in
    let s = subst (Stands self.items.items c.args.name.now) placed (stands self.items.items c.args.name.now) in
    let ok = self.items.ok in
    omega (arith, s.0, ok.0)

pub returns : goal.returns
returns c =
    let self = c.args.self.now in
    let name = c.as_str.ensures.value in
    let placed = ap (place_named self.items.items) (sym name) ∙ sym (self.found c.as_str.result.now) ∙
    sym c.get.ensures.value ∙ ap option_copied c.in_ok-place.was in
    let s = subst (Stands self.items.items c.args.name.now) placed (stands self.items.items c.args.name.now) in
    ap (λ o. Some (signature_of o.sig)) c.index.ensures ∙ sym (s.1 c.index.result.now)
