-- Terms put together.
use Rattle.std.proofs.Common.{◌≡◌, ℕ, ◌+◌, List, [], ◌∷◌, ◌++◌, length, map, refl, sym, ap, ◌∙◌, arith}
use Rattle.std.proofs.lemmas.Grind.{common_steps}
use Rattle.std.proofs.lemmas.List.{map-append, length-append, length-map}
use Rattle.qtt_base.specs.declared.place.GlobalId.{GlobalId}
use Rattle.qtt_usage.specs.declared.mult.Mult.{Mult}
use Rattle.qtt_term.specs.declared.term.Term as code
use Rattle.qtt_term.specs.declared.term.Term.{the_lemmas}
use Rattle.qtt_term.specs.Term.{Form, Term, node, ε, ◌▸◌, ◌+++◌}
use Rattle.qtt_term.specs.View.{term, terms, side_by_side}
use Rattle.qtt_term.proofs.Components.{joined, case_of}

pub no_components : (ts : List code.Term) → length ts ≡ 0 → side_by_side (terms ts) ≡ ε
no_components [] e = refl
no_components (t ∷ ts) e = absurd (omega arith)

pub two_lists : (ps fs all : List code.Term) → ps ++ fs ≡ all →
    side_by_side (terms ps) +++ side_by_side (terms fs) ≡ side_by_side (terms all)
two_lists ps fs all e =
    joined (terms ps) (terms fs) ∙ ap side_by_side (sym (map-append term ps fs)) ∙ ap (λ ts. side_by_side (terms ts)) e

-- a Case of so many parameters, a motive, branches with these bodies, and a scrutinee
pub case-made : (q : Mult) (f : GlobalId) (i k : ℕ) (ns : List ℕ) (ps ms bs front behind all : List code.Term)
    (m s : code.Term) (cs : List (ℕ × Term)) → length ps ≡ k → ps ++ behind ≡ all → behind ≡ front ++ s ∷ [] →
    ms ++ bs ≡ front → ms ≡ m ∷ [] → map (λ b. b.0) cs ≡ ns → map (λ b. b.1) cs ≡ terms bs →
    case_of q f (terms ps) i (term m) cs (term s) ≡ node (Form.case q f k (i + 1) ns) (side_by_side (terms all))
case-made q f i k ns ps ms bs front behind all m s cs count first last middle motive numbers bodies =
    let inner : m ∷ bs ≡ front = ap (λ ts. ts ++ bs) (sym motive) ∙ middle in
    let list : ps ++ m ∷ (bs ++ s ∷ []) ≡ all =
    ap (λ ts. ps ++ (ts ++ s ∷ [])) inner ∙ ap (λ ts. ps ++ ts) (sym last) ∙ first in
    let back : side_by_side (terms bs) +++ (term s ▸ ε) ≡ side_by_side (terms (bs ++ s ∷ [])) =
    two_lists bs (s ∷ []) (bs ++ s ∷ []) refl in
    let parts : side_by_side (terms ps) +++ (term m ▸ (side_by_side (terms bs) +++ (term s ▸ ε)))
    ≡ side_by_side (terms all) =
    ap (λ ts. side_by_side (terms ps) +++ (term m ▸ ts)) back ∙ two_lists ps (m ∷ (bs ++ s ∷ [])) all list in
    let many : length (terms ps) ≡ k = length-map ps term ∙ count in
    cc (parts, many)

-- how many bodies are left of the components of a Case
pub bodies-left : (k n : ℕ) (ps ms bs front behind all : List code.Term) (s : code.Term) →
    length all ≡ k + (n + 2) → length ps ≡ k → ps ++ behind ≡ all → behind ≡ front ++ s ∷ [] → ms ++ bs ≡ front →
    length ms ≡ 1 → length bs ≡ n
bodies-left k n ps ms bs front behind all s whole count first last middle motive =
    let a : length ps + length behind ≡ length all = sym (length-append ps behind) ∙ ap length first in
    let b : length behind ≡ length front + 1 = ap length last ∙ length-append front (s ∷ []) in
    let d : length ms + length bs ≡ length front = sym (length-append ms bs) ∙ ap length middle in
    omega arith

pub ruleset assembling = (the_lemmas, common_steps, length-map, no_components, two_lists)
