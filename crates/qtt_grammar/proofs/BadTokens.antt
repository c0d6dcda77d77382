-- Why a first bad token is bad.
use Rattle.std.proofs.Common.{◌≡◌, ◌∙◌, ◌<◌, ◌≤◌, List, [], ◌∷◌, ◌++◌, length, None, refl, ap, sym, subst, append_assoc, inl, inr, arith}
use Rattle.std.proofs.lemmas.List.{append-nil, length-append}
use Rattle.qtt_base.specs.declared.place.Span.{Span}
use Rattle.qtt_syntax.specs.Tree.{Module}
use Rattle.qtt_phrase.specs.Phrase.{BeginsSome, FirstBad}
use Rattle.qtt_phrase.specs.Reading.{Kind, Read}
use Rattle.qtt_phrase.specs.Reading.Kind.{unexpected, too_deep}
use Rattle.qtt_phrase.specs.Reading.Read.{got, bad, over}
use Rattle.qtt_phrase.proofs.Chained.{Exact, Sample, nothing}
use Rattle.qtt_phrase.proofs.Deeper.{left_of, SameOr, Shallow}
use Rattle.qtt_phrase.proofs.Whole.{Fronts, fronts, bad_first, got_first}
use Rattle.qtt_phrase.proofs.Whole.Fronts.{shorter, longer}
use Rattle.qtt_grammar.specs.declared.class.Pass.TheVariants.{Counts}
use Rattle.qtt_grammar.specs.declared.lexeme.Lexeme.{Lexeme}
use Rattle.qtt_grammar.specs.declared.stop.Excess.{Excess}
use Rattle.qtt_grammar.specs.Grammar.{levels}
use Rattle.qtt_grammar.specs.Readers.{Reads, levels_at, module_at, text_at}
use Rattle.qtt_grammar.specs.Parsed.{IsDeeperText, HasKind}
use Rattle.qtt_grammar.proofs.Deepest.{texts_deepen}
use Rattle.qtt_grammar.proofs.Inners.{levels_inner}
use Rattle.qtt_grammar.proofs.Items.{module_reads, module_some, levels_whole}
use Rattle.qtt_grammar.proofs.Sets.{At}

abbrev nowhere : Span
nowhere = record { line = 0; col = 0; len = 0 }

abbrev TextRead : Type 0
TextRead = Read Lexeme Excess Module

-- a text in which one more level may open
abbrev deeper_at : Reads Module
deeper_at = module_at Counts (levels_at Counts 201) (levels_at Counts 200)

deeper_exact : Exact (At nowhere) IsDeeperText nothing deeper_at
unfolding IsDeeperText
deeper_exact = (module_reads Counts (levels Counts 201) (levels Counts 200) (levels_at Counts 201)
    (levels_at Counts 200) (levels_inner nowhere Counts 201) (levels_inner nowhere Counts 200)
    (levels_whole Counts 200)).exact

deeper_some : Sample (At nowhere) IsDeeperText
unfolding IsDeeperText
deeper_some = module_some Counts (levels Counts 201) (levels Counts 200) (levels_at Counts 201)
    (levels_at Counts 200) (levels_inner nowhere Counts 201) (levels_inner nowhere Counts 200)
    (levels_whole Counts 200)

-- ---- what was read begins some text

record ReadFront (ls : List Lexeme) (rest : List Lexeme) : Type 0 where
  front : List Lexeme
  parts : ls ≡ front ++ rest
  begun : BeginsSome IsDeeperText front

front_of : (ls : List Lexeme) (r : TextRead) → deeper_at ls ≡ r → ReadFront ls (left_of r)
front_of ls (got a rest) e = let s =
    deeper_exact.sound ls a rest e in
    record {
      front = s.front;
      parts = s.parts;
      begun = ([], a, None, subst (λ (z : List Lexeme). IsDeeperText z a None) (sym (append-nil s.front)) s.means);
    }
front_of ls (bad k rest) e = let d =
    bad_first IsDeeperText nothing deeper_at deeper_exact deeper_some ls k rest e in
    record { front = d.front; parts = d.parts; begun = d.goes }
front_of ls (over f rest) e =
    let s = deeper_exact.passed ls f rest e in
    record {
      front = s.front ++ s.last ∷ [];
      parts = s.parts ∙ sym (append_assoc s.front (s.last ∷ []) rest);
      begun = (s.begun.more, s.begun.value, s.begun.fault, s.begun.means);
    }

too_long : (us vs rest r : List Lexeme) (x y : Lexeme) (m : List Lexeme) → us ++ x ∷ [] ≡ vs ++ y ∷ m →
    vs ++ rest ≡ us ++ x ∷ r → length rest ≤ length r → ⊥
too_long us vs rest r x y m e f h =
    let a = ap length e in
    let b = ap length f in
    omega (
      arith,
      length-append us (x ∷ []),
      length-append vs (y ∷ m),
      length-append vs rest,
      length-append us (x ∷ r),
      a,
      b,
      h,
    )

begins_by : (us vs rest r : List Lexeme) (x : Lexeme) → vs ++ rest ≡ us ++ x ∷ r → length rest ≤ length r →
    BeginsSome IsDeeperText vs → Fronts vs (us ++ x ∷ []) rest → BeginsSome IsDeeperText (us ++ x ∷ [])
begins_by us vs rest r x e h (more, a, o, m) (shorter n same) = (
  n ++ more,
  a,
  o,
  subst (λ (z : List Lexeme). IsDeeperText z a o)
      (ap (λ (z : List Lexeme). z ++ more) same ∙ append_assoc (us ++ x ∷ []) n more) m,
)
begins_by us vs rest r x e h b (longer y m q same parts) = absurd (too_long us vs rest r x y m same e h)

-- a text begins with what was read, and so with its front
begins_with : (us vs rest r : List Lexeme) (x : Lexeme) → vs ++ rest ≡ us ++ x ∷ r → length rest ≤ length r →
    BeginsSome IsDeeperText vs → BeginsSome IsDeeperText (us ++ x ∷ [])
begins_with us vs rest r x e h b =
    begins_by us vs rest r x e h b (fronts vs (us ++ x ∷ []) rest r (e ∙ sym (append_assoc us (x ∷ []) r)))

-- ---- the kinds

goes_further : (ls front rest : List Lexeme) → ls ≡ front ++ rest →
    length (left_of (deeper_at ls)) < length rest → HasKind too_deep front rest
goes_further ls front [] e h = absurd (omega (arith, h))
goes_further ls front (x ∷ r) e h =
    let f = front_of ls (deeper_at ls) refl in
    (x, r, refl, begins_with front f.front (left_of (deeper_at ls)) r x (sym f.parts ∙ e) (omega (arith, h)) f.begun)

too_deep_by : (ls front rest : List Lexeme) → ls ≡ front ++ rest → text_at Counts ls ≡ bad too_deep rest →
    SameOr (text_at Counts ls) (deeper_at ls) → HasKind too_deep front rest
too_deep_by ls front rest e t (inl s) = absurd (subst (λ (r : TextRead). Shallow r) t s.1)
too_deep_by ls front rest e t (inr d) =
    goes_further ls front rest e
    (let h : d.rest ≡ rest = (let g = sym d.refused ∙ t in cc) in
    subst (λ (r : List Lexeme). length (left_of (deeper_at ls)) < length r) h d.further)

same_length : (us vs rest : List Lexeme) → us ++ rest ≡ vs ++ rest → length us ≡ length vs
same_length us vs rest e = let h = ap length e in omega (arith, length-append us rest, length-append vs rest, h)

fronts_same : (us vs rest : List Lexeme) → length us ≡ length vs → us ++ rest ≡ vs ++ rest → us ≡ vs
fronts_same [] [] rest l e = refl
fronts_same [] (v ∷ vs) rest l e = absurd (omega (arith, l))
fronts_same (u ∷ us) [] rest l e = absurd (omega (arith, l))
fronts_same (u ∷ us) (v ∷ vs) rest l e =
    let same : u ≡ v = cc in
    let later : us ++ rest ≡ vs ++ rest = cc in
    let more = fronts_same us vs rest (omega (arith, l)) later in
    cc

-- fronts before the same rest are the same
pub one_front : (us vs rest : List Lexeme) → us ++ rest ≡ vs ++ rest → us ≡ vs
one_front us vs rest e = fronts_same us vs rest (same_length us vs rest e) e

unexpected_by : (ls front rest : List Lexeme) → ls ≡ front ++ rest → FirstBad IsDeeperText ls rest →
    HasKind unexpected front rest
unexpected_by ls front rest e d x r h b =
    d.stops x r h (subst (λ (us : List Lexeme). BeginsSome IsDeeperText (us ++ x ∷ []))
    (one_front front d.front rest (sym e ∙ d.parts)) b)

bad_by : (ls front rest : List Lexeme) → ls ≡ front ++ rest → text_at Counts ls ≡ bad unexpected rest →
    SameOr (text_at Counts ls) (deeper_at ls) → HasKind unexpected front rest
bad_by ls front rest e t (inl s) =
    unexpected_by ls front rest e
    (bad_first IsDeeperText nothing deeper_at deeper_exact deeper_some ls unexpected rest (sym s.0 ∙ t))
bad_by ls front rest e t (inr d) = absurd (let g = sym d.refused ∙ t in cc)

long_by : (ls front : List Lexeme) (a : Module) (x : Lexeme) (r : List Lexeme) → ls ≡ front ++ x ∷ r →
    text_at Counts ls ≡ got a (x ∷ r) → SameOr (text_at Counts ls) (deeper_at ls) →
    HasKind unexpected front (x ∷ r)
long_by ls front a x r e t (inl s) =
    unexpected_by ls front (x ∷ r) e
    (got_first IsDeeperText nothing deeper_at deeper_exact deeper_some ls a x r (sym s.0 ∙ t))
long_by ls front a x r e t (inr d) = absurd (let g = sym d.refused ∙ t in cc)

pub bad_has_kind : (kind : Kind) (ls front rest : List Lexeme) → ls ≡ front ++ rest →
    text_at Counts ls ≡ bad kind rest → HasKind kind front rest
bad_has_kind unexpected ls front rest e t = bad_by ls front rest e t ((texts_deepen Counts).at ls)
bad_has_kind too_deep ls front rest e t = too_deep_by ls front rest e t ((texts_deepen Counts).at ls)

pub long_has_kind : (ls front : List Lexeme) (a : Module) (x : Lexeme) (r : List Lexeme) → ls ≡ front ++ x ∷ r →
    text_at Counts ls ≡ got a (x ∷ r) → HasKind unexpected front (x ∷ r)
long_has_kind ls front a x r e t = long_by ls front a x r e t ((texts_deepen Counts).at ls)

-- a bad token is bad for one reason
pub one_kind : (k j : Kind) (front rest : List Lexeme) → HasKind k front rest → HasKind j front rest → k ≡ j
one_kind unexpected unexpected front rest h i = refl
one_kind too_deep too_deep front rest h i = refl
one_kind unexpected too_deep front rest h (x, r, e, b) = absurd (h x r e b)
one_kind too_deep unexpected front rest (x, r, e, b) h = absurd (h x r e b)
