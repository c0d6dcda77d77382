use Rattle.std.proofs.Common.{ℕ, List, [], map, ap, sym, ◌∙◌}
use Rattle.std.proofs.lemmas.Simd.{map-map}
use Rattle.qtt_base.specs.declared.place.GlobalId.{GlobalId}
use Rattle.qtt_usage.specs.Mult.{𝟘}
use Rattle.qtt_term.specs.declared.term.Term as code
use Rattle.qtt_term.specs.Signature.{Constructor, prim_id}
use Rattle.qtt_term.specs.Items.{FamilyEntry, ConstructorEntry, constructor, constructor_entry}
use Rattle.qtt_term.specs.View.{terms}
use Rattle.qtt_term.proofs.prim_items.plain_family.Goals as goal

entry : GlobalId → List ℕ → List code.Term → List code.Term → List Constructor → List ConstructorEntry → FamilyEntry
entry i n ps is ds es = record {
  id = i;
  name = n;
  family = record { params = map (λ t. (𝟘, t)) (terms ps); indices = terms is; level = 0; constructors = ds };
  constructors = es;
}

pub returns : goal.returns
unfolding entry
returns c =
    let cs = c.args.constructors.items in
    let es = map constructor_entry cs in
    let ds = map constructor cs in
    let name = c.in_ok-prim_name.field-0 in
    let ps = c.new.result.items in
    let is = c.new-2.result.items in
    ap (λ i. entry i name ps is ds es) c.prim_id.ensures ∙ ap (λ n. entry (prim_id c.args.item) n ps is ds es)
    c.in_ok-prim_name.ensures
    ∙ ap (λ ts. entry (prim_id c.args.item) c.args.name.now ts is ds es) c.new.ensures.items
    ∙ ap (λ ts. entry (prim_id c.args.item) c.args.name.now [] ts ds es) c.new-2.ensures.items
    ∙ ap (λ xs. entry (prim_id c.args.item) c.args.name.now [] [] xs es)
    (sym (map-map (λ e. e.constructor) constructor_entry cs))
