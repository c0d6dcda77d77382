use Rattle.std.proofs.Common.{◌≡◌, ◌≤◌, map, sym, ◌∙◌, ap, subst}
use mathlib.Core.Path.{ap₂}
use Rattle.std.proofs.lemmas.Result.{err_from_is_err_and}
use Rattle.qtt_base.specs.Limits.{standard}
use Rattle.qtt_term.specs.Globals.{env}
use Rattle.qtt_erase.specs.Erasure.{erased_bodies}
use Rattle.qtt_lower.specs.Sizes.{blocks_of}
use Rattle.qtt_lower.specs.Programs as programs
use Rattle.qtt_lower.specs.Compiled.{definition_ids, bodies_of, joined, excess, sized, total_blocks, total_instructions, firsts_from}
use Rattle.qtt_lower.specs.View.{bases, base_list, part_list}
use Rattle.qtt_lower.proofs.Turns.{same_firsts, blocks_are_program, program_excess}
use Rattle.qtt_lower.proofs.Joining.{fails}
use Rattle.qtt_lower.proofs.program.lower_all.Goals as goal

pub returns-in_err-within_limits : goal.returns-in_err-within_limits
returns-in_err-within_limits g c =
    let E = env c.args.env.now in
    let ds = definition_ids c.args.env.now in
    let given : c.deref-2.result.now ≡ map (sized E) ds =
    c.deref-2.ensures.value ∙ c.in_ok-sizes.ensures ∙ ap (map (sized E))
    (c.deref.ensures.value ∙ c.in_ok-ids.ensures.ids) in
    let passed = sym (program_excess E ds) ∙
    sym (ap (λ ss. excess (total_blocks ss) (total_instructions ss)) given) ∙
    c.in_err-within_limits.ensures.excess in
    let p = err_from_is_err_and c.from_residual-in_err-within_limits.result
    c.from_residual-in_err-within_limits.ensures.1 in
    rw (p.1, p.2) (fails c.args.env.now _ passed)

pub returns : goal.returns
returns g c =
    let E = env c.args.env.now in
    let ds = definition_ids c.args.env.now in
    let ids = c.in_ok-ids.ensures.ids in
    let given : c.deref-2.result.now ≡ map (sized E) ds =
    c.deref-2.ensures.value ∙ c.in_ok-sizes.ensures ∙ ap (map (sized E)) (c.deref.ensures.value ∙ ids) in
    let again : c.deref-3.result.now ≡ map (sized E) ds =
    c.deref-3.ensures.value ∙ c.in_ok-sizes.ensures ∙ ap (map (sized E)) (c.deref.ensures.value ∙ ids) in
    let few = subst (λ ss. total_blocks ss ≤ standard.blocks) given c.in_ok-within_limits.ensures.few in
    let firsts : bases c.in_ok-bases.bases ≡ programs.bases (bodies_of c.args.env.now) =
    ap base_list (c.in_ok-bases.ensures ∙ ap (firsts_from 0) again) ∙ same_firsts E ds 0 few in
    let all : part_list c.in_ok-parts.parts.items ≡ map
    (λ d. blocks_of (programs.bases (bodies_of c.args.env.now)) d (erased_bodies E d)) ds =
    c.in_ok-parts.ensures ∙ ap₂ (λ bs is. map (λ d. blocks_of bs d (erased_bodies E d)) is) firsts
    (c.deref-4.ensures.value ∙ ids) in
    record {
      within = sym (program_excess E ds) ∙ sym (ap (λ ss. excess (total_blocks ss) (total_instructions ss)) given)
          ∙ c.in_ok-within_limits.ensures.excess;
      program = c.in_ok-blocks.ensures ∙ ap joined all ∙ blocks_are_program E ds c.in_ok-ids.ensures.differ;
      bases = firsts;
    }
