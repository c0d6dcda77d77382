use Rattle.std.proofs.Common.{◌≡◌, map, length, Ok, Err, refl, sym, ap, ◌∙◌, subst, arith}
use Rattle.std.specs.List.{list_any}
use Rattle.std.proofs.lemmas.Bool.{true≢false}
use Rattle.std.proofs.lemmas.List.{length-map}
use Rattle.std.proofs.lemmas.Result.{err_from_is_err_and}
use Rattle.std.proofs.lemmas.Simd.{map-map}
use Rattle.qtt_syntax.specs.View.{module_of}
use Rattle.qtt_graph.specs.Graph.{header_of}
use Rattle.qtt_graph.specs.Ranks.{ranks}
use Rattle.qtt_load.specs.Order.{IsOrder}
use Rattle.qtt_load.specs.declared.errors.OrderError.{OrderError}
use Rattle.qtt_load.specs.declared.errors.OrderError.TheVariants as order
use Rattle.qtt_module.specs.declared.errors.ModuleError.TheVariants as judging
use Rattle.qtt_module.specs.TextCalls.{accepted_of}
use Rattle.qtt_build.specs.Built.{nothing_yet, is_named}
use Rattle.qtt_build.specs.Answer.{building_of, IsJudged, StandsAt, places_of, total}
use Rattle.qtt_build.proofs.Passing.{behind-references, few-built}
use Rattle.qtt_build.proofs.Stopping.{not-ordered, not-judged, comes-built, few-placed, root-placed}
use Rattle.qtt_build.proofs.build.built.Goals as goal

pub returns-in-Err-Refused : goal.returns-in-Err-Refused
returns-in-Err-Refused g c told l =
    let n = c.args.budget in
    let root = c.args.root.now in
    let ts = c.args.loaded.now.texts.items in
    let r = c.in-Err-Refused.refusal in
    let e : c.in-Err-Refused.field-0 ≡ order.Refused r = c.in-Err-Refused.field-0-is in
    let ring : IsOrder (map header_of (map module_of ts)) (Err (order.Refused r)) =
    subst (λ hs. IsOrder hs (Err (order.Refused r))) (sym (map-map header_of module_of ts))
    (subst (λ (x : OrderError). IsOrder (map (λ t. header_of (module_of t)) ts) (Err x)) e c.in-Err-Refused.ensures) in
    subst (λ x. IsJudged told root n (Err (judging.Refused x))) (sym c.in-Err-Refused.refusal-is)
    (not-ordered c.kinds_agree.ensures told root n (map module_of ts) (order.Refused r) l ring)

pub built_by_rank-requires-clause-few : goal.built_by_rank-requires-clause-few
built_by_rank-requires-clause-few g c κs within =
    let ts = c.args.loaded.now.texts.items in
    let levels = c.in-Ok.levels.items in
    let ranked : ranks (map header_of (map module_of ts)) ≡ Ok (places_of levels) =
    ap ranks (map-map header_of module_of ts) ∙ c.in-Ok.ensures in
    let few = few-placed c.loaded_are_builds.ensures c.args.root.now (map module_of ts) (places_of levels)
    c.requires.loads ranked in
    let same = ap (λ ls. total (places_of ls)) c.deref.ensures.value in
    omega (arith, same, few)

pub returns-in_err-globals : goal.returns-in_err-globals
returns-in_err-globals g c told l =
    let n = c.args.budget in
    let root = c.args.root.now in
    let ts = c.args.loaded.now.texts.items in
    let levels = c.in-Ok.levels.items in
    let ranked : ranks (map header_of (map module_of ts)) ≡ Ok (places_of levels) =
    ap ranks (map-map header_of module_of ts) ∙ c.in-Ok.ensures in
    let e = c.in_err-globals.field-0.0 in
    let p = err_from_is_err_and c.from_residual.result c.from_residual.ensures.1 in
    let judged = behind-references n (Err e) ts c.texts-texts.result.now levels c.deref.result.now c.texts-texts.ensures
    c.deref.ensures.value c.in_err-globals.ensures in
    rw (p.1, p.2) (not-judged told root n (map module_of ts) (places_of levels) e l ranked judged)

pub place-requires : goal.place-requires
place-requires g c =
    let n = c.args.budget in
    let root = c.args.root.now in
    let ts = c.args.loaded.now.texts.items in
    let levels = c.in-Ok.levels.items in
    let ranked : ranks (map header_of (map module_of ts)) ≡ Ok (places_of levels) =
    ap ranks (map-map header_of module_of ts) ∙ c.in-Ok.ensures in
    let building = c.in_ok-globals.field-0 in
    let built = behind-references n (Ok building) ts c.texts-texts.result.now levels c.deref.result.now
    c.texts-texts.ensures c.deref.ensures.value c.in_ok-globals.ensures in
    let few = few-placed c.loaded_are_builds.ensures root (map module_of ts) (places_of levels)
    c.requires.loads ranked in
    let most = few-built n (map module_of ts) (places_of levels) nothing_yet (building_of building) built in
    omega (arith, few, most, length-map building.order.items accepted_of, ap length c.deref-2.ensures.value)

pub unreachable-requires : goal.unreachable-requires
unreachable-requires g c =
    let n = c.args.budget in
    let root = c.args.root.now in
    let ts = c.args.loaded.now.texts.items in
    let levels = c.in-Ok.levels.items in
    let ranked : ranks (map header_of (map module_of ts)) ≡ Ok (places_of levels) =
    ap ranks (map-map header_of module_of ts) ∙ c.in-Ok.ensures in
    let building = c.in_ok-globals.field-0 in
    let built = behind-references n (Ok building) ts c.texts-texts.result.now levels c.deref.result.now
    c.texts-texts.ensures c.deref.ensures.value c.in_ok-globals.ensures in
    let there = root-placed c.roots_are_built.ensures root n (map module_of ts) (places_of levels)
    (building_of building) c.requires.loads ranked built in
    let missing = ap (λ xs. list_any (is_named root) (map accepted_of xs)) (sym c.deref-2.ensures.value)
    ∙ c.in_default.ensures.none refl in
    true≢false (sym there ∙ missing)

pub returns : goal.returns
returns g c told l =
    let n = c.args.budget in
    let root = c.args.root.now in
    let ts = c.args.loaded.now.texts.items in
    let levels = c.in-Ok.levels.items in
    let ranked : ranks (map header_of (map module_of ts)) ≡ Ok (places_of levels) =
    ap ranks (map-map header_of module_of ts) ∙ c.in-Ok.ensures in
    let building = c.in_ok-globals.field-0 in
    let built = behind-references n (Ok building) ts c.texts-texts.result.now levels c.deref.result.now
    c.texts-texts.ensures c.deref.ensures.value c.in_ok-globals.ensures in
    let stands = subst (λ xs. StandsAt (map accepted_of xs) root c.in-Some.root) c.deref-2.ensures.value
    c.in-Some.ensures.some in
    (comes-built told root n (map module_of ts) (places_of levels) (building_of building) l ranked built, stands)
