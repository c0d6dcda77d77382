-- What tasks make, step by step.
use Rattle.std.proofs.Common.{◌≡◌, ℕ, ◌+◌, ◌-◌, ◌*◌, ◌<◌, ◌≤◌, List, [], ◌∷◌, ◌++◌, length, take, drop, refl, sym, ap, ap₂, subst, ◌∙◌, append_assoc, arith}
use Rattle.std.proofs.lemmas.List.{append-nil, length-append, length-map, map-append, take-map, drop-map}
use Rattle.std.proofs.Math.Seq.{take-append_seam, drop-append_seam}
use Rattle.qtt_term.specs.declared.term.Term as code
use Rattle.qtt_term.specs.Term.{Term}
use Rattle.qtt_term.specs.Term as t
use Rattle.qtt_term.specs.Question.{weight, weights}
use Rattle.qtt_term.specs.View.{term, terms, side_by_side}
use Rattle.qtt_envconv.specs.declared.node.Node as node_code
use Rattle.qtt_envconv.specs.declared.shape.Shape.{Shape}
use Rattle.qtt_envconv.specs.declared.reading.Task as task_code
use Rattle.qtt_envconv.specs.declared.reading.Task.TheVariants as task
use Rattle.qtt_envconv.specs.Nodes.{node, nodes}
use Rattle.qtt_envconv.specs.Shapes.{form, fits}
use Rattle.qtt_envconv.specs.Tasks.{done, finished, IsDoable, AreDoable, reads, effort, work}

-- ---- tasks behind others are done before them
pub finished-append : (ks ls : List task_code.Task) (bs : List Term) →
    finished (ks ++ ls) bs ≡ finished ks (finished ls bs)
finished-append [] ls bs = refl
finished-append (k ∷ ks) ls bs = ap (done k) (finished-append ks ls bs)

pub doable-append : (ks ls : List task_code.Task) (bs : List Term) → AreDoable ks (finished ls bs) →
    AreDoable ls bs → AreDoable (ks ++ ls) bs
doable-append [] ls bs a b = b
doable-append (k ∷ ks) ls bs a b =
    let P : List Term → Type 0 = IsDoable k in
    (subst P (sym (finished-append ks ls bs)) a.0, doable-append ks ls bs a.1 b)

pub doable-front : (ks ls : List task_code.Task) (bs : List Term) → AreDoable (ks ++ ls) bs →
    AreDoable ks (finished ls bs)
doable-front [] ls bs a = tt
doable-front (k ∷ ks) ls bs a =
    let P : List Term → Type 0 = IsDoable k in
    (subst P (finished-append ks ls bs) a.0, doable-front ks ls bs a.1)

pub doable-back : (ks ls : List task_code.Task) (bs : List Term) → AreDoable (ks ++ ls) bs → AreDoable ls bs
doable-back [] ls bs a = a
doable-back (k ∷ ks) ls bs a = doable-back ks ls bs a.1

pub work-append : (ks ls : List task_code.Task) → work (ks ++ ls) ≡ work ks + work ls
work-append [] ls = omega arith
work-append (k ∷ ks) ls = omega (arith, work-append ks ls)

-- ---- the last task
pub last-makes : (ks ls : List task_code.Task) (k : task_code.Task) (bs : List Term) → ls ≡ ks ++ k ∷ [] →
    finished ls bs ≡ finished ks (done k bs)
last-makes ks ls k bs e = ap (λ xs. finished xs bs) e ∙ finished-append ks (k ∷ []) bs

pub last-doable : (ks ls : List task_code.Task) (k : task_code.Task) (bs : List Term) → ls ≡ ks ++ k ∷ [] →
    AreDoable ls bs → IsDoable k bs
last-doable ks ls k bs e doable =
    let P : List task_code.Task → Type 0 = λ xs. AreDoable xs bs in
    (doable-back ks (k ∷ []) bs (subst P e doable)).0

pub others-doable : (ks ls : List task_code.Task) (k : task_code.Task) (bs : List Term) → ls ≡ ks ++ k ∷ [] →
    AreDoable ls bs → AreDoable ks (done k bs)
others-doable ks ls k bs e doable =
    let P : List task_code.Task → Type 0 = λ xs. AreDoable xs bs in
    doable-front ks (k ∷ []) bs (subst P e doable)

pub last-effort : (ks ls : List task_code.Task) (k : task_code.Task) → ls ≡ ks ++ k ∷ [] →
    work ls ≡ effort k + work ks
last-effort ks ls k e = omega (arith, ap work e, work-append ks (k ∷ []))

-- ---- nodes that are read
pub finished-reads : (ns : List node_code.Node) (bs : List Term) → finished (reads ns) bs ≡ bs ++ nodes ns
finished-reads [] bs = sym (append-nil bs)
finished-reads (n ∷ ns) bs =
    finished-append (reads ns) (task.Read n ∷ []) bs ∙ finished-reads ns (bs ++ node n ∷ [])
    ∙ append_assoc bs (node n ∷ []) (nodes ns)

pub doable-reads : (ns : List node_code.Node) (bs : List Term) → AreDoable (reads ns) bs
doable-reads [] bs = tt
doable-reads (n ∷ ns) bs =
    doable-append (reads ns) (task.Read n ∷ []) bs (doable-reads ns (bs ++ node n ∷ [])) (tt, tt)

pub work-reads : (ns : List node_code.Node) → work (reads ns) ≡ 2 * weights (side_by_side (nodes ns))
work-reads [] = refl
work-reads (n ∷ ns) = omega (arith, work-append (reads ns) (task.Read n ∷ []), work-reads ns)

reads-append : (ns ms : List node_code.Node) → reads (ns ++ ms) ≡ reads ms ++ reads ns
reads-append [] ms = sym (append-nil (reads ms))
reads-append (n ∷ ns) ms =
    ap (λ ks. ks ++ task.Read n ∷ []) (reads-append ns ms) ∙ append_assoc (reads ms) (reads ns) (task.Read n ∷ [])

-- the last node is put behind the tasks first
pub reads-last : (ks ls : List task_code.Task) (ns ms : List node_code.Node) (n : node_code.Node) →
    ms ≡ ns ++ n ∷ [] → ls ≡ ks ++ task.Read n ∷ [] → ls ++ reads ns ≡ ks ++ reads ms
reads-last ks ls ns ms n e f =
    ap (λ xs. xs ++ reads ns) f ∙ append_assoc ks (task.Read n ∷ []) (reads ns)
    ∙ ap (λ xs. ks ++ xs) (sym (reads-append ns (n ∷ [])) ∙ ap reads (sym e))

-- ---- a node that is a form
done-parts : (s : Shape) (k : ℕ) (ns : List node_code.Node) (bs : List Term) → k ≡ length ns →
    done (task.Assemble s k) (bs ++ nodes ns) ≡ bs ++ t.node (form s) (side_by_side (nodes ns)) ∷ []
done-parts s k ns bs e =
    let count : length (bs ++ nodes ns) - k ≡ length bs =
    omega (arith, length-append bs (nodes ns), length-map ns node) in
    let front : take (length (bs ++ nodes ns) - k) (bs ++ nodes ns) ≡ bs =
    ap (λ i. take i (bs ++ nodes ns)) count ∙ take-append_seam bs (nodes ns) in
    let back : drop (length (bs ++ nodes ns) - k) (bs ++ nodes ns) ≡ nodes ns =
    ap (λ i. drop i (bs ++ nodes ns)) count ∙ drop-append_seam bs (nodes ns) in
    ap₂ (λ xs ys. xs ++ t.node (form s) (side_by_side ys) ∷ []) front back

pub read-makes : (ks mid new : List task_code.Task) (s : Shape) (k : ℕ) (n : node_code.Node) (ns : List node_code.Node)
    (bs : List Term) → mid ≡ ks ++ task.Assemble s k ∷ [] → new ≡ mid ++ reads ns → k ≡ length ns →
    t.node (form s) (side_by_side (nodes ns)) ≡ node n → finished new bs ≡ finished ks (done (task.Read n) bs)
read-makes ks mid new s k n ns bs first last count means =
    ap (λ ls. finished ls bs) last ∙ finished-append mid (reads ns) bs
    ∙ ap (λ ls. finished ls (finished (reads ns) bs)) first
    ∙ finished-append ks (task.Assemble s k ∷ []) (finished (reads ns) bs)
    ∙ ap (finished ks) (ap (done (task.Assemble s k)) (finished-reads ns bs) ∙ done-parts s k ns bs count
    ∙ ap (λ t. bs ++ t ∷ []) means)

pub read-doable : (ks mid new : List task_code.Task) (s : Shape) (k : ℕ) (n : node_code.Node) (ns : List node_code.Node)
    (bs : List Term) → mid ≡ ks ++ task.Assemble s k ∷ [] → new ≡ mid ++ reads ns → k ≡ length ns →
    t.node (form s) (side_by_side (nodes ns)) ≡ node n → fits s (length ns) →
    AreDoable ks (done (task.Read n) bs) → AreDoable new bs
read-doable ks mid new s k n ns bs first last count means whole doable =
    let after : finished (reads ns) bs ≡ bs ++ nodes ns = finished-reads ns bs in
    let made : done (task.Assemble s k) (finished (reads ns) bs) ≡ done (task.Read n) bs =
    ap (done (task.Assemble s k)) after ∙ done-parts s k ns bs count ∙ ap (λ t. bs ++ t ∷ []) means in
    let enough : k ≤ length (finished (reads ns) bs) =
    omega (arith, ap length after, length-append bs (nodes ns), length-map ns node) in
    let Whole : ℕ → Type 0 = fits s in
    let Older : List Term → Type 0 = AreDoable ks in
    let Front : List task_code.Task → Type 0 = λ ls. AreDoable ls (finished (reads ns) bs) in
    let All : List task_code.Task → Type 0 = λ ls. AreDoable ls bs in
    subst All (sym last) (doable-append mid (reads ns) bs
    (subst Front (sym first) (doable-append ks (task.Assemble s k ∷ []) (finished (reads ns) bs)
    (subst Older (sym made) doable) ((enough, subst Whole (sym count) whole), tt)))
    (doable-reads ns bs))

pub read-less : (ks mid new : List task_code.Task) (s : Shape) (k : ℕ) (n : node_code.Node) (ns : List node_code.Node) →
    mid ≡ ks ++ task.Assemble s k ∷ [] → new ≡ mid ++ reads ns →
    t.node (form s) (side_by_side (nodes ns)) ≡ node n → work new < effort (task.Read n) + work ks
read-less ks mid new s k n ns first last means =
    omega (
      arith,
      ap work last,
      work-append mid (reads ns),
      ap work first,
      work-append ks (task.Assemble s k ∷ []),
      work-reads ns,
      ap weight means,
    )

-- ---- a term that is put together
pub done-assembly : (s : Shape) (k n : ℕ) (all front back new : List code.Term) (made : code.Term) →
    n ≡ length all → front ≡ take (n - k) all → back ≡ drop (n - k) all →
    term made ≡ t.node (form s) (side_by_side (terms back)) → new ≡ front ++ made ∷ [] →
    terms new ≡ done (task.Assemble s k) (terms all)
done-assembly s k n all front back new made size before behind means pushed =
    let count : n ≡ length (terms all) = size ∙ sym (length-map all term) in
    let first : terms front ≡ take (length (terms all) - k) (terms all) =
    ap terms before ∙ sym (take-map term (n - k) all) ∙ ap (λ i. take (i - k) (terms all)) count in
    let last : terms back ≡ drop (length (terms all) - k) (terms all) =
    ap terms behind ∙ sym (drop-map term (n - k) all) ∙ ap (λ i. drop (i - k) (terms all)) count in
    ap terms pushed ∙ map-append term front (made ∷ [])
    ∙ ap₂ (λ xs t. xs ++ t ∷ []) first (means ∙ ap (λ ts. t.node (form s) (side_by_side ts)) last)
