-- What stands behind an opening quote, by the characters that it spells so far.
use Rattle.std.proofs.Common.{◌≡◌, ◌≢◌, ℕ, ◌+◌, ◌==◌, Bool, true, false, cond, List, [], ◌∷◌, ◌++◌, length, Option, Some, None, encode_utf8, refl, sym, ap, ◌∙◌, append_assoc, length-append, arith}
use Rattle.std.proofs.lemmas.Bool.{eqb-true, eqb-false}
use Rattle.qtt_lexer.specs.Forms.{Spells}
use Rattle.qtt_lexer.specs.Forms.Spells.{nothing, plain, escaped}
use Rattle.qtt_lexer.specs.Piece.{quoted, preceded, by_escape, escape}
use Rattle.qtt_lexer.specs.declared.quoted.Quotation.{Quotation}
use Rattle.qtt_lexer.specs.declared.quoted.Quotation.TheVariants.{Closed, LineEnds, TextEnds, BadEscape}
use Rattle.qtt_lexer.proofs.Texts.{follows, quoted-line_ends, quoted-lone, quoted-cut, quoted-escape, quoted-plain}
use Rattle.qtt_lexer_laws.specs.Flaws.{IsCutOff}
use Rattle.qtt_lexer_laws.specs.Flaws.IsCutOff.{ended, escaping}

-- a text that does not close, and where it stops
abbrev pub Stops : List ℕ → Quotation → Type 0
Stops cs (Closed value n) = Unit {0}
Stops cs LineEnds =
    (body : List ℕ) × (value : List ℕ) × (tail : List ℕ) × (more : List ℕ) × Spells body value × IsCutOff tail ×
    (cs ≡ body ++ (tail ++ 10 ∷ more))
Stops cs (TextEnds n) =
    (body : List ℕ) × (value : List ℕ) × (tail : List ℕ) × Spells body value × IsCutOff tail ×
    (cs ≡ body ++ tail) × (n ≡ length cs)
Stops cs (BadEscape n) =
    (body : List ℕ) × (value : List ℕ) × (e : ℕ) × (more : List ℕ) × Spells body value × (e ≢ 10) ×
    (escape e ≡ None) × (cs ≡ body ++ 92 ∷ e ∷ more) × (n ≡ length body)

stops_if : (b : Bool) (cs : List ℕ) (q r : Quotation) → (b ≡ true → Stops cs q) → (b ≡ false → Stops cs r) →
    Stops cs (cond b q r)
stops_if true cs q r h k = h refl
stops_if false cs q r h k = k refl

stops_plain : (c : ℕ) (cs : List ℕ) (q : Quotation) → c ≢ 34 → c ≢ 10 → c ≢ 92 → Stops cs q →
    Stops (c ∷ cs) (preceded c 1 q)
stops_plain c cs (Closed value n) h i j m = tt
stops_plain c cs LineEnds h i j m = (
  c ∷ m.0,
  encode_utf8 c ++ m.1,
  m.2,
  m.3,
  plain c m.0 m.1 (encode_utf8 c ++ m.1) h i j m.4 refl,
  m.5,
  ap (λ (ds : List ℕ). c ∷ ds) m.6,
)
stops_plain c cs (TextEnds n) h i j m = (
  c ∷ m.0,
  encode_utf8 c ++ m.1,
  m.2,
  plain c m.0 m.1 (encode_utf8 c ++ m.1) h i j m.3 refl,
  m.4,
  ap (λ (ds : List ℕ). c ∷ ds) m.5,
  omega (arith, m.6),
)
stops_plain c cs (BadEscape n) h i j m = (
  c ∷ m.0,
  encode_utf8 c ++ m.1,
  m.2,
  m.3,
  plain c m.0 m.1 (encode_utf8 c ++ m.1) h i j m.4 refl,
  m.5,
  m.6,
  ap (λ (ds : List ℕ). c ∷ ds) m.7,
  omega (arith, m.8),
)

two : (x e : ℕ) (cs ds : List ℕ) → x ≡ 92 → cs ≡ ds → x ∷ e ∷ cs ≡ 92 ∷ e ∷ ds
two x e cs ds h k = ap (λ (y : ℕ). y ∷ e ∷ cs) h ∙ ap (λ (es : List ℕ). 92 ∷ e ∷ es) k

stops_escaped : (x e c : ℕ) (cs : List ℕ) (q : Quotation) → x ≡ 92 → e ≢ 10 → escape e ≡ Some c → Stops cs q →
    Stops (x ∷ e ∷ cs) (preceded c 2 q)
stops_escaped x e c cs (Closed value n) is h k m = tt
stops_escaped x e c cs LineEnds is h k m = (
  92 ∷ e ∷ m.0,
  encode_utf8 c ++ m.1,
  m.2,
  m.3,
  escaped e c m.0 m.1 (encode_utf8 c ++ m.1) h k m.4 refl,
  m.5,
  two x e cs (m.0 ++ (m.2 ++ 10 ∷ m.3)) is m.6,
)
stops_escaped x e c cs (TextEnds n) is h k m = (
  92 ∷ e ∷ m.0,
  encode_utf8 c ++ m.1,
  m.2,
  escaped e c m.0 m.1 (encode_utf8 c ++ m.1) h k m.3 refl,
  m.4,
  two x e cs (m.0 ++ m.2) is m.5,
  omega (arith, m.6),
)
stops_escaped x e c cs (BadEscape n) is h k m = (
  92 ∷ e ∷ m.0,
  encode_utf8 c ++ m.1,
  m.2,
  m.3,
  escaped e c m.0 m.1 (encode_utf8 c ++ m.1) h k m.4 refl,
  m.5,
  m.6,
  two x e cs (m.0 ++ 92 ∷ m.2 ∷ m.3) is m.7,
  omega (arith, m.8),
)

stops_escape : (x e : ℕ) (cs : List ℕ) (o : Option ℕ) (q : Quotation) → escape e ≡ o → x ≡ 92 → e ≢ 10 →
    Stops cs q → Stops (x ∷ e ∷ cs) (by_escape o q)
stops_escape x e cs None q k is h m =
    ([], [], e, cs, nothing, h, k, ap (λ (y : ℕ). y ∷ e ∷ cs) is, refl)
stops_escape x e cs (Some c) q k is h m = stops_escaped x e c cs q is h k m

stops_lone : (b : Bool) (c : ℕ) → (c == 92) ≡ b → c ≢ 34 → c ≢ 10 → Stops (c ∷ []) (TextEnds 1)
stops_lone true c e h i =
    ([], [], 92 ∷ [], nothing, escaping, ap (λ (x : ℕ). x ∷ []) (eqb-true c 92 e), refl)
stops_lone false c e h i = (
  c ∷ [],
  encode_utf8 c ++ [],
  [],
  plain c [] [] (encode_utf8 c ++ []) h i (eqb-false c 92 e) nothing refl,
  ended,
  refl,
  refl,
)

-- what is read behind a quote
pub quoted-stops : (cs : List ℕ) → Stops cs (quoted cs)
unfolding quoted
quoted-stops [] = ([], [], [], nothing, ended, refl, refl)
quoted-stops (c ∷ []) =
    stops_if (c == 34) (c ∷ []) (Closed [] 1) (cond (c == 10) LineEnds (TextEnds 1)) (λ h. tt)
    (λ h. stops_if (c == 10) (c ∷ []) LineEnds (TextEnds 1)
    (λ i. ([], [], [], [], nothing, ended, ap (λ (x : ℕ). x ∷ []) (eqb-true c 10 i)))
    (λ i. stops_lone (c == 92) c refl (eqb-false c 34 h) (eqb-false c 10 i)))
quoted-stops (c ∷ e ∷ cs) =
    let escapes = cond (e == 10) LineEnds (by_escape (escape e) (quoted cs)) in
    let plainly = preceded c 1 (quoted (e ∷ cs)) in
    stops_if (c == 34) (c ∷ e ∷ cs) (Closed [] 1) (cond (c == 10) LineEnds (cond (c == 92) escapes plainly))
    (λ h. tt)
    (λ h. stops_if (c == 10) (c ∷ e ∷ cs) LineEnds (cond (c == 92) escapes plainly)
    (λ i. ([], [], [], e ∷ cs, nothing, ended, ap (λ (x : ℕ). x ∷ e ∷ cs) (eqb-true c 10 i)))
    (λ i. stops_if (c == 92) (c ∷ e ∷ cs) escapes plainly
    (λ j. stops_if (e == 10) (c ∷ e ∷ cs) LineEnds (by_escape (escape e) (quoted cs))
    (λ k. (
      [],
      [],
      92 ∷ [],
      cs,
      nothing,
      escaping,
      ap (λ (x : ℕ). x ∷ e ∷ cs) (eqb-true c 92 j) ∙ ap (λ (x : ℕ). 92 ∷ x ∷ cs) (eqb-true e 10 k),
    ))
    (λ k. stops_escape c e cs (escape e) (quoted cs) refl (eqb-true c 92 j) (eqb-false e 10 k) (quoted-stops cs)))
    (λ j. stops_plain c (e ∷ cs) (quoted (e ∷ cs)) (eqb-false c 34 h) (eqb-false c 10 i) (eqb-false c 92 j)
    (quoted-stops (e ∷ cs)))))

-- And back

follows-nothing : (q : Quotation) → q ≡ follows [] 0 q
follows-nothing (Closed value n) = ap (Closed value) (omega arith)
follows-nothing LineEnds = refl
follows-nothing (TextEnds n) = ap TextEnds (omega arith)
follows-nothing (BadEscape n) = ap BadEscape (omega arith)

preceded-follows : (c k n m : ℕ) (v w : List ℕ) (q : Quotation) → w ≡ encode_utf8 c ++ v → m ≡ k + n →
    preceded c k (follows v n q) ≡ follows w m q
preceded-follows c k n m v w (Closed value i) e h =
    ap (λ (u : List ℕ). Closed u (k + (n + i))) (sym (append_assoc (encode_utf8 c) v value) ∙
    ap (λ (u : List ℕ). u ++ value) (sym e)) ∙ ap (Closed (w ++ value)) (omega (arith, h))
preceded-follows c k n m v w LineEnds e h = refl
preceded-follows c k n m v w (TextEnds i) e h = ap TextEnds (omega (arith, h))
preceded-follows c k n m v w (BadEscape i) e h = ap BadEscape (omega (arith, h))

quoted-behind : (body value more : List ℕ) → Spells body value →
    quoted (body ++ more) ≡ follows value (length body) (quoted more)
quoted-behind body value more nothing = follows-nothing (quoted more)
quoted-behind body value more (plain c ds v w h i j m e) =
    quoted-plain c (ds ++ more) h i j
    ∙ ap (preceded c 1) (quoted-behind ds v more m)
    ∙ preceded-follows c 1 (length ds) (length (c ∷ ds)) v w (quoted more) e (omega arith)
quoted-behind body value more (escaped y c ds v w h k m e) =
    quoted-escape y (ds ++ more) h
    ∙ ap (λ (o : Option ℕ). by_escape o (quoted (ds ++ more))) k
    ∙ ap (preceded c 2) (quoted-behind ds v more m)
    ∙ preceded-follows c 2 (length ds) (length (92 ∷ y ∷ ds)) v w (quoted more) e (omega arith)

cut_line : (tail more : List ℕ) → IsCutOff tail → quoted (tail ++ 10 ∷ more) ≡ LineEnds
cut_line tail more ended = quoted-line_ends more
cut_line tail more escaping = quoted-cut more

cut_end : (tail : List ℕ) → IsCutOff tail → quoted tail ≡ TextEnds (length tail)
unfolding quoted
cut_end tail ended = refl
cut_end tail escaping = quoted-lone

pub quoted-line : (body value tail more : List ℕ) → Spells body value → IsCutOff tail →
    quoted (body ++ (tail ++ 10 ∷ more)) ≡ LineEnds
quoted-line body value tail more m cut =
    quoted-behind body value (tail ++ 10 ∷ more) m ∙ ap (follows value (length body)) (cut_line tail more cut)

pub quoted-input : (body value tail : List ℕ) → Spells body value → IsCutOff tail →
    quoted (body ++ tail) ≡ TextEnds (length (body ++ tail))
quoted-input body value tail m cut =
    quoted-behind body value tail m ∙ ap (follows value (length body)) (cut_end tail cut) ∙
    ap TextEnds (sym (length-append body tail))

pub quoted-backslash : (body value : List ℕ) (e : ℕ) (more : List ℕ) → Spells body value → e ≢ 10 →
    escape e ≡ None → quoted (body ++ 92 ∷ e ∷ more) ≡ BadEscape (length body)
quoted-backslash body value e more m h k =
    quoted-behind body value (92 ∷ e ∷ more) m ∙
    ap (follows value (length body)) (quoted-escape e more h ∙ ap (λ (o : Option ℕ). by_escape o (quoted more)) k) ∙
    ap BadEscape (omega arith)
