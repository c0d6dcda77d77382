use Rattle.std.proofs.Common.{◌≡◌, ℕ, suc, ◌+◌, ◌++◌, List, ◌∷◌, drop, map, length, Ok, Err, sym, ap, ◌∙◌, subst, arith}
use Rattle.std.specs.Prelude.{Vec}
use Rattle.std.specs.Global.{Global}
use Rattle.std.proofs.lemmas.List.{at_drop_more, at_drop_all, length-map, length-append}
use Rattle.std.proofs.lemmas.Result.{err_from_is_err_and}
use Rattle.qtt_syntax.specs.View.{module_of}
use Rattle.qtt_module.specs.Answer.{Gives}
use Rattle.qtt_build.specs.Built.{Built, built_by_rank, nothing_yet, judged_rank}
use Rattle.qtt_build.specs.Build.{modules_at}
use Rattle.qtt_module.specs.TextCalls.{accepted_of}
use Rattle.qtt_build.specs.Answer.{accepted_list, building_of, places_of, task_of, tasks_from, total}
use Rattle.qtt_build.specs.Parts.{OnlyBelow, NumberedFrom}
use Rattle.qtt_build.proofs.Passing.{next-rank, rank-judged, stops, no-rank, few-accepted, judged-numbered}
use Rattle.qtt_build.proofs.ranks.built_by_rank.Goals as goal

pub overflow_cast-first : goal.overflow_cast-first
overflow_cast-first g c = omega (arith, c.len.ensures, c.loop-level.invariant.room)

pub returns-in_err-rank : goal.returns-in_err-rank
returns-in_err-rank g c =
    let n = c.args.budget in
    let B = building_of c.loop-level.building in
    let k = c.loop-level.building.order.len in
    let texts = map module_of c.args.texts.now in
    let level = c.level-item.result in
    let at = c.loop-level.level-index in
    let rest = drop (at + 1) c.args.levels.now in
    let ranks = λ (ls : List (Vec ℕ Global)). map (modules_at texts) (places_of ls) in
    let left = at_drop_more (λ ls. built_by_rank n B (ranks ls)) c.args.levels.now at level c.loop-level-test.true
    ∙ ap (λ l. built_by_rank n B (ranks (l ∷ rest))) (sym c.level-item.is) in
    let tasks = ap (map task_of) c.deref-in-loop-level.ensures.value ∙ c.in_ok-jobs.ensures
    ∙ ap (λ ps. tasks_from (c.len.result + 1) (modules_at texts ps)) c.deref.ensures.value
    ∙ ap (λ j. tasks_from (j + 1) (modules_at texts level.items)) c.len.ensures in
    let order : k ≡ length B.order =
    omega (arith, length-map c.loop-level.building.order.items accepted_of, c.loop-level.building.order.ok.0) in
    let judged = rank-judged n B k (modules_at texts level.items) (map task_of c.deref-in-loop-level.result.now)
    tasks order in
    let e = c.in_err-rank.field-0.0 in
    let p = err_from_is_err_and c.from_residual-in_err-rank.result c.from_residual-in_err-rank.ensures.1 in
    rw (p.1, p.2) (stops e n B (modules_at texts level.items) (ranks rest)
    (built_by_rank n nothing_yet (ranks c.args.levels.now))
    (subst (λ m. Gives accepted_list (Err e) m) judged c.in_err-rank.ensures)
    (sym left ∙ c.loop-level.invariant.same))

pub with_rank-requires : goal.with_rank-requires
with_rank-requires g c =
    let n = c.args.budget in
    let B = building_of c.loop-level.building in
    let k = c.loop-level.building.order.len in
    let texts = map module_of c.args.texts.now in
    let level = c.level-item.result in
    let As = map accepted_of c.in_ok-rank.rank.items in
    let tasks = ap (map task_of) c.deref-in-loop-level.ensures.value ∙ c.in_ok-jobs.ensures
    ∙ ap (λ ps. tasks_from (c.len.result + 1) (modules_at texts ps)) c.deref.ensures.value
    ∙ ap (λ j. tasks_from (j + 1) (modules_at texts level.items)) c.len.ensures in
    let order : k ≡ length B.order =
    omega (arith, length-map c.loop-level.building.order.items accepted_of, c.loop-level.building.order.ok.0) in
    let judged = rank-judged n B k (modules_at texts level.items) (map task_of c.deref-in-loop-level.result.now)
    tasks order in
    subst (λ j. NumberedFrom (suc j) As) (sym order)
    (judged-numbered n B (modules_at texts level.items) As (sym judged ∙ c.in_ok-rank.ensures)
    (subst (λ j. OnlyBelow (suc j) B.globals) order c.loop-level.building.below))

pub loop-level-preserved : goal.loop-level-preserved
loop-level-preserved g c =
    let n = c.args.budget in
    let B = building_of c.loop-level.building in
    let k = c.loop-level.building.order.len in
    let texts = map module_of c.args.texts.now in
    let level = c.level-item.result in
    let at = c.loop-level.level-index in
    let rest = drop (at + 1) c.args.levels.now in
    let As = map accepted_of c.in_ok-rank.rank.items in
    let ranks = λ (ls : List (Vec ℕ Global)). map (modules_at texts) (places_of ls) in
    let left = at_drop_more (λ ls. built_by_rank n B (ranks ls)) c.args.levels.now at level c.loop-level-test.true
    ∙ ap (λ l. built_by_rank n B (ranks (l ∷ rest))) (sym c.level-item.is) in
    let count = at_drop_more (λ ls. total (places_of ls)) c.args.levels.now at level c.loop-level-test.true
    ∙ ap (λ l. total (places_of (l ∷ rest))) (sym c.level-item.is) in
    let tasks = ap (map task_of) c.deref-in-loop-level.ensures.value ∙ c.in_ok-jobs.ensures
    ∙ ap (λ ps. tasks_from (c.len.result + 1) (modules_at texts ps)) c.deref.ensures.value
    ∙ ap (λ j. tasks_from (j + 1) (modules_at texts level.items)) c.len.ensures in
    let order : k ≡ length B.order =
    omega (arith, length-map c.loop-level.building.order.items accepted_of, c.loop-level.building.order.ok.0) in
    let judged = rank-judged n B k (modules_at texts level.items) (map task_of c.deref-in-loop-level.result.now)
    tasks order in
    let now : judged_rank n B (modules_at texts level.items) ≡ Ok As = sym judged ∙ c.in_ok-rank.ensures in
    let C = c.in_ok-building-2.building in
    let longer : length (map accepted_of C.order.items) ≡ length (B.order ++ As) =
    ap (λ (D : Built). length D.order) c.in_ok-building-2.ensures in
    record {
      room = omega (
        arith,
        c.loop-level.invariant.room,
        count,
        few-accepted n B texts level.items As now,
        longer,
        length-append B.order As,
        length-map C.order.items accepted_of,
        C.order.ok.0,
        order,
      );
      same = ap (λ (D : Built). built_by_rank n D (ranks rest)) c.in_ok-building-2.ensures
          ∙ next-rank n B (modules_at texts level.items) (ranks rest) As now ∙ sym left ∙ c.loop-level.invariant.same;
    }

pub returns : goal.returns
returns g c =
    let n = c.args.budget in
    let B = building_of c.loop-level.building in
    let texts = map module_of c.args.texts.now in
    sym c.loop-level.invariant.same
    ∙ at_drop_all (λ (ls : List (Vec ℕ Global)). built_by_rank n B (map (modules_at texts) (places_of ls)))
    c.args.levels.now c.loop-level.level-index c.loop-level-test.false ∙ no-rank n B
