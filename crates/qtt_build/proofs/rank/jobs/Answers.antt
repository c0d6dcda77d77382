use Rattle.std.proofs.Common.{ℕ, List, ◌≡◌, ◌+◌, ◌++◌, ◌∷◌, [], drop, length, map, Some, None, refl, sym, ap, ◌∙◌, arith}
use Rattle.std.specs.Prelude.{slice_get, slice_index}
use Rattle.std.proofs.lemmas.List.{at_drop_more}
use Rattle.std.proofs.lemmas.Option.{slice_get_read, slice_get_past}
use Rattle.qtt_syntax.specs.View.{module_of}
use Rattle.qtt_build.specs.Build.{modules_at}
use Rattle.qtt_build.specs.Answer.{task_of, tasks_from}
use Rattle.qtt_build.proofs.Tasks.{one-job, no-job}
use Rattle.qtt_build.proofs.rank.jobs.Goals.{in-Some+in_ok-push, in_default}
use Rattle.qtt_build.proofs.rank.jobs.Goals as goal

pub loop-place-preserved : goal.loop-place-preserved
loop-place-preserved c =
    let texts = c.args.texts.now in
    let places = c.args.places.now in
    let at = c.loop-place.place-index in
    let place = slice_index places at in
    let rest = drop (at + 1) places in
    let jobs = c.loop-place.jobs.items in
    let number = c.loop-place.number in
    let before = c.loop-place.invariant in
    let here = λ (ps : List ℕ). map task_of jobs ++ tasks_from number (modules_at (map module_of texts) ps) in
    let fewer = at_drop_more length places at 0 c.loop-place-test.true in
    let this = sym (at_drop_more here places at 0 c.loop-place-test.true) ∙ before.same in
    elim c.match-get.branch [
      | in-Some+in_ok-push w ↦
          let text = w.in-Some.text in
          let found = w.in-Some.ensures.lookup in
          let there : slice_get texts place ≡ Some text.now =
          slice_get_read texts (length texts) place text.now refl found.3.0 found.1 in
          let more = ap (λ v. v.items) w.jobs-is ∙ w.in_ok-push.ensures.items in
          record {
            room = omega (arith, w.number-is, fewer, before.room);
            same =
                ap (λ js. map task_of js ++ tasks_from c.match-get.number (modules_at (map module_of texts) rest)) more
                ∙ ap
                (λ k. map task_of (jobs ++ record { id = record { 0 = number }; text = text } ∷ [])
                ++ tasks_from k (modules_at (map module_of texts) rest)) w.number-is
                ∙ one-job texts jobs (record { id = record { 0 = number }; text = text }) place rest there ∙ this;
          }
      | in_default w ↦
          let there : slice_get texts place ≡ None = slice_get_past texts place w.in_default.ensures.lookup.3 in
          record {
            room = omega (arith, w.number-is, fewer, before.room);
            same =
                ap (λ v. map task_of v.items ++ tasks_from c.match-get.number (modules_at (map module_of texts) rest))
                w.jobs-is
                ∙ ap (λ k. map task_of jobs ++ tasks_from k (modules_at (map module_of texts) rest)) w.number-is
                ∙ no-job texts jobs number place rest there ∙ this;
          }
    ]
