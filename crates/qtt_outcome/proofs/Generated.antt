-- No request about generated modules lacks one.
use Rattle.std.proofs.Common.{◌≡◌, ◌∙◌, ℕ, map, codes, Err, refl, ap, subst}
use Rattle.qtt_syntax.specs.Tree.{Module}
use Rattle.qtt_graph.specs.Graph.{Name, header_of}
use Rattle.qtt_words.specs.Asked.{Work}
use Rattle.qtt_load.specs.Reading.{Reading, read_in}
use Rattle.qtt_load.specs.Loading.{loaded}
use Rattle.qtt_load.specs.Loading as loading
use Rattle.qtt_gen_load.specs.Texts.{generated_texts}
use Rattle.qtt_gen_load.specs.Laws.{GeneratedAreThere}
use Rattle.qtt_build.specs.Build.{Stop, loading_stop, ring_stop}
use Rattle.qtt_build.specs.Judged.{RefusesBuild}
use Rattle.qtt_outcome.specs.Outcome.{texts_for, root_of}
use Rattle.qtt_outcome.specs.Headline.{GeneratedLackNone}
use Rattle.qtt_outcome.proofs.Headline.{ByBuilds, absent_is_told_holds}

-- a module is lacking only while modules are loaded
lacking-so : (s : loading.Stop) (a : Name) → loading_stop s ≡ Stop.absent a → s ≡ loading.Stop.absent a
lacking-so (loading.Stop.absent b) a e = let g : b ≡ a = cc e in ap loading.Stop.absent g
lacking-so (loading.Stop.refused r k) a e = absurd (cc e)

not-loaded : (read : Name → Reading Module) (root : Name) (n : ℕ) (a : Name) (s : Stop) → RefusesBuild read root n s →
    s ≡ Stop.absent a → loaded read root ≡ Err (loading.Stop.absent a)
not-loaded read root n a s (RefusesBuild.not_loaded {s = t} e) h =
    e ∙ ap (λ (x : loading.Stop). Err x) (lacking-so t a h)
not-loaded read root n a s (RefusesBuild.ring {ms = ms} {way = way} e f) h =
    absurd (let g : ring_stop (map header_of ms) way ≡ Stop.absent a = h in cc g)
not-loaded read root n a s (RefusesBuild.judged e f x) h = absurd (cc h)

pub generated_lack_none_holds : ByBuilds (GeneratedAreThere → GeneratedLackNone)
generated_lack_none_holds laws there texts input r n w least most e =
    let lacks = absent_is_told_holds laws texts input r e in
    let of_work : RefusesBuild (read_in (texts_for texts (Work.gen n))) (root_of (Work.gen n)) r.budget
    (Stop.absent lacks.name) =
    subst (λ (w : Work). RefusesBuild (read_in (texts_for texts w)) (root_of w) r.budget (Stop.absent lacks.name)) w
    lacks.lacking in
    there n lacks.name least most
    (not-loaded (read_in (generated_texts n)) (codes "Main") r.budget lacks.name (Stop.absent lacks.name) of_work refl)
