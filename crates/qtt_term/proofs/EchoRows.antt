-- Lines of an input, echoed: a run computed as far as the input is known.
use Rattle.std.proofs.Common.{◌≡◌, ℕ, zero, suc, ◌<◌, ◌≤◌, Bool, true, false, cond, List, [], ◌∷◌, length, ◌==◌, refl, sym, ◌∙◌, ap, subst, arith}
use Rattle.std.specs.Fmt.{digits}
use Rattle.std.specs.Prelude.{slice_index}
use Rattle.std.specs.Str.{IsUtf8, is_utf8, chars}
use Rattle.std.proofs.lemmas.Bool.{lt-ltb, le-ltb}
use Rattle.std.proofs.lemmas.Str.{IsUtf8-from_ascii, is_utf8-from_IsUtf8}
use lib.Utf8.{encode}
use Rattle.qtt_usage.specs.Mult.{ω}
use Rattle.qtt_prims.specs.Lines.{line_of, after_line, is_line}
use Rattle.qtt_term.specs.Term.{Io, Action, var, ε, Lam, App, Def, TextLit, Act}
use Rattle.qtt_term.specs.Signature.{UnitTy, LineTy, Got}
use Rattle.qtt_term.specs.Contraction.{contract}
use Rattle.qtt_term.specs.FullStep.{Cause}
use Rattle.qtt_term.specs.FullRun.{Config, Verdict, Turn, turn, going, run_on, start, pure_line}
use Rattle.qtt_term.specs.Programs.{item, bound, echo}
use Rattle.qtt_term.specs.Rows.{Shown, shown}
use Rattle.qtt_term.specs.EchoRows.{echoed, IsOneLine, letters, echo_of, bad_line, EchoRows}

-- ---- one line
nothing-after : (t : Bool) (b : ℕ) (bs line rest : List ℕ) → cond t [] (b ∷ line) ≡ b ∷ bs → (line ≡ bs → rest ≡ []) →
    cond t bs rest ≡ []
nothing-after true b bs line rest e h = absurd (cc e)
nothing-after false b bs line rest e h = let tails : line ≡ bs = cc e in h tails

one_line-after : (s : List ℕ) → IsOneLine s → after_line s ≡ []
one_line-after [] e = refl
one_line-after (b ∷ bs) e = nothing-after (b == 10) b bs (line_of bs) (after_line bs) e (one_line-after bs)

is-line : (s : List ℕ) → IsUtf8 s → length s ≤ 65536 → is_line s ≡ true
is-line s u h = ap (λ b. cond b false (is_utf8 s)) (le-ltb 65536 (length s) h) ∙ is_utf8-from_IsUtf8 s u

no-line : (s : List ℕ) → 65536 < length s → is_line s ≡ false
no-line s h = ap (λ b. cond b false (is_utf8 s)) (lt-ltb 65536 (length s) h)

-- ---- the run
-- the body of the main, before and after its bind
begun : List ℕ → Config
begun input = record {
  term = bound Io.io Io.io LineTy UnitTy (Act Action.get_line 0 ε) (App ω (Def (item 0)) (var 0)) ω;
  waiting = [];
  input = input;
  events = [];
  tapes = [];
}

asking : List ℕ → Config
asking input = record {
  term = Act Action.get_line 0 ε;
  waiting = Lam ω LineTy (App ω (Def (item 0)) (var 0)) ∷ [];
  input = input;
  events = [];
  tapes = [];
}

read_turn : List ℕ → Bool → List ℕ → List ℕ → Turn
read_turn input good line rest =
    cond good (Turn.goes (record (asking input) { term = pure_line (Got (TextLit line)); input = rest }))
    (Turn.halts (Verdict.trapped Cause.bad_input_line))

delta-turn : (input : List ℕ) → turn echo (start (item 1) input) ≡ Turn.goes (begun input)
unfolding contract begun
delta-turn input = refl

bind-turn : (input : List ℕ) → turn echo (begun input) ≡ Turn.goes (asking input)
unfolding begun asking
bind-turn input = refl

line-turn : (b : ℕ) (bs : List ℕ) → turn echo (asking (b ∷ bs)) ≡
    read_turn (b ∷ bs) (is_line (line_of (b ∷ bs))) (line_of (b ∷ bs)) (after_line (b ∷ bs))
unfolding read_turn asking
line-turn b bs = refl

-- what is shown after two contractions, the reading of a line and so many more
after_asking : ℕ → List ℕ → Bool → List ℕ → List ℕ → Shown
after_asking more input good line rest =
    shown (going 2 (asking input) (read_turn input good line rest) (run_on more echo 3))

asks : (more b : ℕ) (bs : List ℕ) → shown (run_on (suc (suc (suc more))) echo 0 (start (item 1) (b ∷ bs))) ≡
    after_asking more (b ∷ bs) (is_line (line_of (b ∷ bs))) (line_of (b ∷ bs)) (after_line (b ∷ bs))
unfolding after_asking
asks more b bs =
    ap (λ t. shown (going 0 (start (item 1) (b ∷ bs)) t (run_on (suc (suc more)) echo 1))) (delta-turn (b ∷ bs))
    ∙ ap (λ t. shown (going 1 (begun (b ∷ bs)) t (run_on (suc more) echo 2))) (bind-turn (b ∷ bs))
    ∙ ap (λ t. shown (going 2 (asking (b ∷ bs)) t (run_on more echo 3))) (line-turn b bs)

reads : (b : ℕ) (bs : List ℕ) (good : Bool) → IsOneLine (b ∷ bs) → is_line (b ∷ bs) ≡ good →
    echoed (b ∷ bs) ≡ after_asking 9999997 (b ∷ bs) good (b ∷ bs) []
reads b bs good e h =
    asks 9999997 b bs
    ∙ ap (λ s. after_asking 9999997 (b ∷ bs) (is_line s) s (after_line (b ∷ bs))) e
    ∙ ap (after_asking 9999997 (b ∷ bs) (is_line (b ∷ bs)) (b ∷ bs)) (one_line-after (b ∷ bs) e)
    ∙ ap (λ g. after_asking 9999997 (b ∷ bs) g (b ∷ bs) []) h

echoes : (input line : List ℕ) → after_asking 9999997 input true line [] ≡ echo_of line
unfolding contract after_asking read_turn asking
echoes input line = refl

traps : (input line rest : List ℕ) → after_asking 9999997 input false line rest ≡ bad_line
unfolding after_asking read_turn asking
traps input line rest = refl

short-echoed : (b : ℕ) (bs : List ℕ) → IsOneLine (b ∷ bs) → IsUtf8 (b ∷ bs) → length (b ∷ bs) ≤ 65536 →
    echoed (b ∷ bs) ≡ echo_of (b ∷ bs)
short-echoed b bs e u h = reads b bs true e (is-line (b ∷ bs) u h) ∙ echoes (b ∷ bs) (b ∷ bs)

long-traps : (s : List ℕ) → IsOneLine s → 65536 < length s → echoed s ≡ bad_line
long-traps [] e h = absurd (omega arith)
long-traps (b ∷ bs) e h = reads b bs false e (no-line (b ∷ bs) h) ∙ traps (b ∷ bs) (b ∷ bs) []

-- ---- so many letters
one_line-letters : (n : ℕ) → IsOneLine (letters n)
one_line-letters zero = refl
one_line-letters (suc n) = ap (λ s. 97 ∷ s) (one_line-letters n)

length-letters : (n : ℕ) → length (letters n) ≡ n
length-letters zero = refl
length-letters (suc n) = ap suc (length-letters n)

ascii-letters : (n i : ℕ) → slice_index (letters n) i < 128
ascii-letters zero i = omega arith
ascii-letters (suc n) zero = omega arith
ascii-letters (suc n) (suc i) = ascii-letters n i

letters-echoed : (n : ℕ) (s : List ℕ) → s ≡ letters n → 0 < n → n ≤ 65536 → echoed s ≡ echo_of s
letters-echoed n [] e h k = let none : 0 ≡ n = ap length e ∙ length-letters n in absurd (omega arith)
letters-echoed n (b ∷ bs) e h k =
    let size : length (b ∷ bs) ≡ n = ap length e ∙ length-letters n in
    short-echoed b bs (subst IsOneLine (sym e) (one_line-letters n))
    (subst IsUtf8 (sym e) (IsUtf8-from_ascii (letters n) (ascii-letters n))) (omega arith)

letters-trap : (n : ℕ) (s : List ℕ) → s ≡ letters n → 65536 < n → echoed s ≡ bad_line
letters-trap n s e h =
    let size : length s ≡ n = ap length e ∙ length-letters n in
    long-traps s (subst IsOneLine (sym e) (one_line-letters n)) (omega arith)

pub echo_rows_hold : EchoRows
unfolding contract digits is_utf8 chars encode
echo_rows_hold = record {
  three = refl;
  three_put = refl;
  short = short-echoed;
  long = long-traps;
  longest = λ s e. letters-echoed 65536 s e (omega arith) (omega arith);
  too_long = λ s e. letters-trap 65537 s e (omega arith);
}
