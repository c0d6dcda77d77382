use Rattle.std.proofs.Common.{ℕ, List, ◌++◌, flat_map, map, refl, ap, ◌∙◌}
use Rattle.qtt_term.specs.Entries.{entries}
use Rattle.qtt_holes.specs.declared.hole.Hole.{Hole}
use Rattle.qtt_holes.specs.HoleText.{hole_text}
use Rattle.qtt_holes.specs.View.{hole}
use Rattle.qtt_cli.proofs.Written.{written-on, written-all}
use Rattle.qtt_cli.proofs.texts.put_holes.Goals as goal

pub loop-hole-preserved : goal.loop-hole-preserved
loop-hole-preserved c =
    let told = hole_text (entries c.args.names.now) c.args.module.now in
    let F = λ (hs : List Hole). flat_map told (map hole hs) in
    let one = c.hole-item.result in
    let old = c.loop-hole.text.items in
    written-on F c.args.holes.now c.loop-hole.hole-index one (told (hole one)) refl
    c.loop-hole-test.true c.hole-item.is old c.extend_from_slice.new.self.items
    (c.args.text.now.items ++ F c.args.holes.now)
    (c.in_ok-extend_from_slice.ensures.items
    ∙ ap (λ (bytes : List ℕ). old ++ bytes) (c.deref.ensures.value ∙ c.in_ok-show.ensures)) c.loop-hole.invariant

pub returns : goal.returns
returns c =
    let F = λ (hs : List Hole). flat_map (hole_text (entries c.args.names.now) c.args.module.now) (map hole hs) in
    written-all F c.args.holes.now c.loop-hole.hole-index refl c.loop-hole-test.false
    c.loop-hole.text.items (c.args.text.now.items ++ F c.args.holes.now) c.loop-hole.invariant
