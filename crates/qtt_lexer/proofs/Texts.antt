-- Texts, read character by character.
use Rattle.std.proofs.Common.{◌≡◌, ◌≢◌, ℕ, suc, ◌+◌, ◌-◌, ◌<◌, ◌≤◌, List, [], ◌∷◌, ◌++◌, length, Option, Some, None, refl, sym, ap, subst, ◌∙◌, arith}
use Rattle.std.proofs.lemmas.Bool.Decides.{nat_tests}
use Rattle.qtt_lexer.specs.Piece.{quoted, preceded, by_escape, escape}
use Rattle.qtt_lexer.specs.Quoted.{IsStep}
use Rattle.qtt_lexer.specs.declared.quoted.Step.{Step}
use Rattle.qtt_lexer.specs.declared.quoted.Quotation.{Quotation}
use Rattle.qtt_lexer.specs.declared.quoted.Quotation.TheVariants.{Closed, LineEnds, TextEnds, BadEscape}

pub quoted-closed : (cs : List ℕ) → quoted (34 ∷ cs) ≡ Closed [] 1
unfolding quoted
quoted-closed [] = refl
quoted-closed (e ∷ cs) = refl

pub quoted-line_ends : (cs : List ℕ) → quoted (10 ∷ cs) ≡ LineEnds
unfolding quoted
quoted-line_ends [] = refl
quoted-line_ends (e ∷ cs) = refl

pub quoted-lone : quoted (92 ∷ []) ≡ TextEnds 1
unfolding quoted
quoted-lone = refl

pub quoted-cut : (cs : List ℕ) → quoted (92 ∷ 10 ∷ cs) ≡ LineEnds
unfolding quoted
quoted-cut cs = refl

pub quoted-escape : (e : ℕ) (cs : List ℕ) → e ≢ 10 → quoted (92 ∷ e ∷ cs) ≡ by_escape (escape e) (quoted cs)
unfolding quoted
quoted-escape e cs h = grind (arith, nat_tests)

pub quoted-plain : (c : ℕ) (cs : List ℕ) → c ≢ 34 → c ≢ 10 → c ≢ 92 → quoted (c ∷ cs) ≡ preceded c 1 (quoted cs)
unfolding quoted
quoted-plain c [] h i j = grind (arith, nat_tests)
quoted-plain c (e ∷ cs) h i j = grind (arith, nat_tests)

-- one step over so many characters, of which the rest is given
step_over : (c n : ℕ) (cs rest : List ℕ) → length cs ≡ n + length rest → 0 < n →
    quoted cs ≡ preceded c n (quoted rest) →
    (length rest < length cs) × (quoted cs ≡ preceded c (length cs - length rest) (quoted rest))
step_over c n cs rest e lt h =
    let same : n ≡ length cs - length rest = omega (arith, e) in
    (omega (arith, e, lt), h ∙ ap (λ (m : ℕ). preceded c m (quoted rest)) same)

pub plain_step : (cs rest : List ℕ) (c : ℕ) → cs ≡ c ∷ rest → c ≢ 34 → c ≢ 10 → c ≢ 92 →
    (length rest < length cs) × (quoted cs ≡ preceded c (length cs - length rest) (quoted rest))
plain_step cs rest c e h i j =
    step_over c 1 cs rest (omega (arith, ap length e)) (omega arith) (ap quoted e ∙ quoted-plain c rest h i j)

pub escape_step : (cs rest : List ℕ) (e c : ℕ) → cs ≡ e ∷ rest → e ≢ 10 → Some c ≡ escape e →
    (length rest < suc (length cs)) ×
    (quoted (92 ∷ cs) ≡ preceded c (suc (length cs) - length rest) (quoted rest))
escape_step cs rest e c is h k =
    step_over c 2 (92 ∷ cs) rest (omega (arith, ap length is)) (omega arith)
    (ap (λ (ds : List ℕ). quoted (92 ∷ ds)) is ∙ quoted-escape e rest h ∙
    ap (λ (o : Option ℕ). by_escape o (quoted rest)) (sym k))

pub bad_step : (cs rest : List ℕ) (e : ℕ) → cs ≡ e ∷ rest → e ≢ 10 → None ≡ escape e → quoted (92 ∷ cs) ≡ BadEscape 0
bad_step cs rest e is h k =
    ap (λ (ds : List ℕ). quoted (92 ∷ ds)) is ∙ quoted-escape e rest h ∙
    ap (λ (o : Option ℕ). by_escape o (quoted rest)) (sym k)

pub cut_step : (cs rest : List ℕ) (e : ℕ) → cs ≡ e ∷ rest → e ≡ 10 → quoted (92 ∷ cs) ≡ LineEnds
cut_step cs rest e is h =
    ap (λ (ds : List ℕ). quoted (92 ∷ ds)) is ∙ ap (λ (x : ℕ). quoted (92 ∷ x ∷ rest)) h ∙ quoted-cut rest

pub closed_step : (cs rest : List ℕ) (c : ℕ) → cs ≡ c ∷ rest → c ≡ 34 → (0 < length cs) × (quoted cs ≡ Closed [] 1)
closed_step cs rest c is h =
    (omega (arith, ap length is), ap quoted is ∙ ap (λ (x : ℕ). quoted (x ∷ rest)) h ∙ quoted-closed rest)

pub line_step : (cs rest : List ℕ) (c : ℕ) → cs ≡ c ∷ rest → c ≡ 10 → quoted cs ≡ LineEnds
line_step cs rest c is h = ap quoted is ∙ ap (λ (x : ℕ). quoted (x ∷ rest)) h ∙ quoted-line_ends rest

pub end_step : (cs : List ℕ) → length cs ≤ 0 → quoted cs ≡ TextEnds (length cs)
unfolding quoted
end_step [] h = refl
end_step (c ∷ cs) h = absurd (omega arith)

pub lone_step : (cs : List ℕ) → length cs ≤ 0 → quoted (92 ∷ cs) ≡ TextEnds (suc (length cs))
lone_step [] h = quoted-lone
lone_step (c ∷ cs) h = absurd (omega arith)

-- a text behind a value that has been read, of so many characters
abbrev pub follows : List ℕ → ℕ → Quotation → Quotation
follows value n (Closed rest m) = Closed (value ++ rest) (n + m)
follows value n LineEnds = LineEnds
follows value n (TextEnds m) = TextEnds (n + m)
follows value n (BadEscape m) = BadEscape (n + m)

-- what a backslash before the rest does, it does where it stands
pub escaped_from : (cs rest : List ℕ) (c : ℕ) (step : Step) → cs ≡ c ∷ rest → c ≡ 92 → IsStep (92 ∷ rest) step →
    IsStep cs step
escaped_from cs rest c step is e h =
    let same : 92 ∷ rest ≡ cs = ap (λ (x : ℕ). x ∷ rest) (sym e) ∙ sym is in
    subst (λ (ds : List ℕ). IsStep ds step) same h
