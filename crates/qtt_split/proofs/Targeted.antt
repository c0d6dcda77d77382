-- What a constructor's motive is taken at, under its family's parameters and its fields.
use Rattle.std.proofs.Common.{◌≡◌, ◌∙◌, ℕ, zero, suc, List, [], ◌∷◌, ◌++◌, length, map, refl, sym, ap}
use Rattle.std.proofs.lemmas.List.{length-map, map-append}
use mathlib.Core.Path.{ap₂}
use Rattle.qtt_term.specs.declared.items.Constructor as code_constructor
use Rattle.qtt_term.specs.declared.term.ConId.{ConId}
use Rattle.qtt_term.specs.declared.term.Term as code
use Rattle.qtt_term.specs.Items.{constructor, field}
use Rattle.qtt_term.specs.Signature.{con_sig}
use Rattle.qtt_term.specs.Substitution.{ren, rens, sub, subs, lifts, shift, above}
use Rattle.qtt_term.specs.Telescopes.{filled}
use Rattle.qtt_term.specs.Term.{Form, Term, Terms, node, ε, ◌▸◌, ◌+++◌}
use Rattle.qtt_term.specs.View.{term, terms, side_by_side}
use Rattle.qtt_term.proofs.Binders.{filled-targets, side-joined, under-binders}
use Rattle.qtt_unify.specs.View.{all_terms}
use Rattle.qtt_split.specs.Branch.{raised}
use Rattle.qtt_split.specs.Split.{results_of}

abbrev listed : Terms → List Term
listed ε = []
listed (t ▸ ts) = t ∷ listed ts

listed-side : (ts : List Term) → listed (side_by_side ts) ≡ ts
listed-side [] = refl
listed-side (t ∷ ts) = ap (λ us. t ∷ us) (listed-side ts)

rens-side : (ρ : ℕ → ℕ) (ts : List Term) → rens [] ρ (side_by_side ts) ≡ side_by_side (map (ren ρ) ts)
rens-side ρ [] = refl
rens-side ρ (t ∷ ts) = ap (λ us. ren ρ t ▸ us) (rens-side ρ ts)

raised-each : (n : ℕ) (vs rs : List code.Term) → all_terms rs ≡ raised n (all_terms vs) →
    terms rs ≡ map (ren (shift n)) (terms vs)
raised-each n vs rs e =
    sym (listed-side (terms rs)) ∙ ap listed (e ∙ rens-side (shift n) (terms vs)) ∙
    listed-side (map (ren (shift n)) (terms vs))

-- values under so many binders more, which stand for themselves
pub lifted-values : (n : ℕ) (vs rs ws all : List code.Term) → all ≡ rs ++ ws → all_terms rs ≡ raised n (all_terms vs) →
    all_terms ws ≡ above 0 n → filled all ≡ lifts n (filled vs)
lifted-values n vs rs ws all e r w =
    under-binders n vs ws all
    (ap terms e ∙ map-append term rs ws ∙ ap (λ ts. ts ++ terms ws) (raised-each n vs rs r)) w

above-counted : (m k : ℕ) → length (listed (above m k)) ≡ k
above-counted m zero = refl
above-counted m (suc k) = ap suc (above-counted m k)

pub variables-counted : (m k : ℕ) (ws : List code.Term) → all_terms ws ≡ above m k → length ws ≡ k
variables-counted m k ws e =
    sym (length-map ws term) ∙ ap length (sym (listed-side (terms ws))) ∙ ap (λ ts. length (listed ts)) e ∙
    above-counted m k

-- the constructor itself behind its result indices
pub targets-are : (d : code_constructor.Constructor) (con : ConId) (k n : ℕ) (ps fs ts all : List code.Term)
    (own : code.Term) → n ≡ length d.fields.items → all ≡ ts ++ own ∷ [] → terms ts ≡ terms d.result.items →
    term own ≡ node (Form.con con.family con.place (length ps)) (all_terms ps +++ all_terms fs) →
    all_terms ps ≡ above n k → all_terms fs ≡ above 0 n →
    all_terms all ≡ (con_sig con.family k con.place (constructor d)).targets
targets-are d con k n ps fs ts all own c e r o p f =
    let m : n ≡ length (map field d.fields.items) = c ∙ sym (length-map d.fields.items field) in
    let made : term own ≡ node (Form.con con.family con.place k) (above n k +++ above 0 n) =
    o ∙ ap (λ j. node (Form.con con.family con.place j) (all_terms ps +++ all_terms fs)) (variables-counted n k ps p) ∙
    ap₂ (λ (x : Terms) (y : Terms). node (Form.con con.family con.place k) (x +++ y)) p f in
    ap all_terms e ∙ ap side_by_side (map-append term ts (own ∷ [])) ∙ side-joined (terms ts) (term own ∷ []) ∙
    ap (λ us. side_by_side us +++ (term own ▸ ε)) r ∙
    ap (λ t. all_terms d.result.items +++ (t ▸ ε)) made ∙
    ap (λ j. all_terms d.result.items +++ (node (Form.con con.family con.place k) (above j k +++ above 0 j) ▸ ε)) m

pub results-are : (d : code_constructor.Constructor) (con : ConId) (k n : ℕ) (ps inner ts all : List code.Term) →
    n ≡ length d.fields.items → filled inner ≡ lifts n (filled ps) →
    all_terms ts ≡ (con_sig con.family k con.place (constructor d)).targets →
    terms all ≡ map (sub (filled inner)) (terms ts) →
    all_terms all ≡ results_of (all_terms ps) (con_sig con.family k con.place (constructor d))
results-are d con k n ps inner ts all c i t e =
    let m : n ≡ length (map field d.fields.items) = c ∙ sym (length-map d.fields.items field) in
    let targets = (con_sig con.family k con.place (constructor d)).targets in
    ap side_by_side e ∙ filled-targets (filled inner) (terms ts) targets t ∙ ap (λ σ. subs [] σ targets) i ∙
    ap (λ j. subs [] (lifts j (filled ps)) targets) m
