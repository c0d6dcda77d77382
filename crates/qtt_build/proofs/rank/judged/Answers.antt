use Rattle.std.proofs.Common.{sym, subst}
use denote.Param.Send.{sendable}
use Rattle.std.proofs.Crossing.{crosses}
use Rattle.std.proofs.lemmas.Simd.{map-map}
use Rattle.qtt_base.proofs.place.ModuleId.TheSendSync as ids
use Rattle.qtt_module.specs.Answer.{Gives}
use Rattle.qtt_build.specs.Built.{all_accepted}
use Rattle.qtt_build.specs.Answer.{accepted_list, answer_to, building_of, task_of}
use Rattle.qtt_build.proofs.Crossing.{text_sync, checked_send, error_send, building_sync}
use Rattle.qtt_build.proofs.Answered.{gives-told}
use Rattle.qtt_build.proofs.rank.judged.Goals as goal

pub in_groups-requires-send-J : goal.in_groups-requires-send-J
in_groups-requires-send-J g c κs within = search (text_sync, ids.the_field_send, sendable) depth 40

pub in_groups-requires-send-X : goal.in_groups-requires-send-X
in_groups-requires-send-X g c κs within = search (checked_send, sendable) depth 40

pub in_groups-requires-send-E : goal.in_groups-requires-send-E
in_groups-requires-send-E g c κs within = search (error_send, sendable) depth 40

pub in_groups-requires-sync-W : goal.in_groups-requires-sync-W
in_groups-requires-sync-W g c κs within = search (building_sync, crosses, sendable) depth 60 fits 20000

pub returns : goal.returns
returns g c =
    let n = c.args.worker.now.budget in
    let B = building_of c.args.worker.now.building.now in
    let jobs = c.args.jobs.now in
    let r = c.in_groups.result in
    subst (λ answers. Gives accepted_list r (all_accepted answers)) (sym (map-map (answer_to n B) task_of jobs))
    (gives-told (λ j. answer_to n B (task_of j)) _ r jobs c.in_groups.ensures.answered c.in_groups.ensures.stopped)
