-- Lines of a list of bytes, found from the front on.
use Rattle.std.proofs.Common.{◌≡◌, ◌≢◌, ℕ, suc, ◌+◌, ◌<◌, ◌≤◌, ◌==◌, Bool, true, false, cond, List, [], ◌∷◌, ◌++◌, length, take, drop, get_or, Option, Some, None, Result, Ok, Err, refl, sym, ap, ◌∙◌, subst, append_assoc, add-one, arith, drop-cons, length-append}
use Rattle.std.proofs.lemmas.List.{take-append-drop, append-nil, length-take}
use Rattle.std.proofs.lemmas.Bool.{eqb-true, le-ltb, lt-ltb}
use Rattle.std.proofs.lemmas.Str.{IsUtf8-from_is_utf8, is_utf8-from_IsUtf8}
use Rattle.std.proofs.Math.Seq.{take-suc, take-length, drop-length}
use Rattle.std.specs.Str.{IsUtf8, is_utf8}
use Rattle.qtt_prims.specs.Lines.{line_of, after_line, is_too_long, is_line}
use Rattle.qtt_edge.specs.Source.{IsAtEnd}
use Rattle.qtt_edge.specs.LineCutter.{all_told, Cuts, CutsAll, CutsFront, CutsLast, EndsAt}
use Rattle.qtt_edge.specs.declared.line_cutter.Next.{Next}
use Rattle.qtt_edge.specs.declared.line_cutter.Next.TheVariants.{Line, End, TooLong, NotUtf8}
use Rattle.qtt_edge.specs.declared.line_cutter.LineError.{LineError}

line_step : (ends : Bool) (b : ℕ) (xs ys : List ℕ) → (line_of xs ≡ xs → line_of (xs ++ ys) ≡ xs ++ line_of ys) →
    cond ends [] (b ∷ line_of xs) ≡ b ∷ xs → cond ends [] (b ∷ line_of (xs ++ ys)) ≡ b ∷ (xs ++ line_of ys)
line_step true b xs ys rest whole = cc
line_step false b xs ys rest whole = let shorter : line_of xs ≡ xs = cc in ap (λ l. b ∷ l) (rest shorter)

-- behind bytes without a byte 10 the line goes on
pub line_of-append : (xs ys : List ℕ) → line_of xs ≡ xs → line_of (xs ++ ys) ≡ xs ++ line_of ys
line_of-append [] ys whole = refl
line_of-append (b ∷ xs) ys whole = line_step (b == 10) b xs ys (line_of-append xs ys) whole

after_step : (ends : Bool) (b : ℕ) (xs ys : List ℕ) → (line_of xs ≡ xs → after_line (xs ++ ys) ≡ after_line ys) →
    cond ends [] (b ∷ line_of xs) ≡ b ∷ xs → cond ends (xs ++ ys) (after_line (xs ++ ys)) ≡ after_line ys
after_step true b xs ys rest whole = cc
after_step false b xs ys rest whole = let shorter : line_of xs ≡ xs = cc in rest shorter

pub after_line-append : (xs ys : List ℕ) → line_of xs ≡ xs → after_line (xs ++ ys) ≡ after_line ys
after_line-append [] ys whole = refl
after_line-append (b ∷ xs) ys whole = after_step (b == 10) b xs ys (after_line-append xs ys) whole

-- nothing stands behind a line that takes all
pub after_line-whole : (xs : List ℕ) → line_of xs ≡ xs → after_line xs ≡ []
after_line-whole xs whole = subst (λ l. after_line l ≡ []) (append-nil xs) (after_line-append xs [] whole)

false_if_not : (b : Bool) → (b ≡ true → ⊥) → b ≡ false
false_if_not true never = absurd (never refl)
false_if_not false never = refl

line_of-one : (ends : Bool) (b : ℕ) → ends ≡ false → cond ends [] (b ∷ []) ≡ b ∷ []
line_of-one true b differs = cc
line_of-one false b differs = refl

-- one more byte that is no byte 10
pub line_of-take : (xs : List ℕ) (i : ℕ) → i < length xs → line_of (take i xs) ≡ take i xs →
    (get_or xs i 0 ≡ 10 → ⊥) → line_of (take (suc i) xs) ≡ take (suc i) xs
line_of-take xs i within whole other =
    rw (take-suc xs i 0 within, line_of-append (take i xs) (get_or xs i 0 ∷ []) whole)
    (ap (λ l. take i xs ++ l)
    (line_of-one (get_or xs i 0 == 10) (get_or xs i 0)
    (false_if_not (get_or xs i 0 == 10) (λ e. other (eqb-true (get_or xs i 0) 10 e)))))

pub ends_at : (xs : List ℕ) (i : ℕ) → i < length xs → line_of (take i xs) ≡ take i xs → get_or xs i 0 ≡ 10 → EndsAt i xs
ends_at xs i within whole is =
    record {
      within = within;
      before = whole;
      end = sym (take-append-drop i xs) ∙ ap (λ l. take i xs ++ l)
          (drop-cons xs i 0 within ∙ ap (λ b. b ∷ drop (suc i) xs) is);
    }

-- the line and the rest of held bytes with a byte 10, and of those behind them
line_held : (held left : List ℕ) (len : ℕ) → EndsAt len held → line_of (held ++ left) ≡ take len held
line_held held left len at =
    let shape : held ++ left ≡ take len held ++ (10 ∷ (drop (suc len) held ++ left)) =
    ap (λ l. l ++ left) at.end ∙ append_assoc (take len held) (10 ∷ drop (suc len) held) left in
    ap line_of shape ∙ (line_of-append (take len held) _ at.before ∙ append-nil (take len held))

after_held : (held left : List ℕ) (len : ℕ) → EndsAt len held → after_line (held ++ left) ≡ drop (suc len) held ++ left
after_held held left len at =
    let shape : held ++ left ≡ take len held ++ (10 ∷ (drop (suc len) held ++ left)) =
    ap (λ l. l ++ left) at.end ∙ append_assoc (take len held) (10 ∷ drop (suc len) held) left in
    ap after_line shape ∙ after_line-append (take len held) _ at.before

not_empty : (held left : List ℕ) → 0 < length held → (held ++ left) ≢ []
not_empty [] left some = absurd (omega arith)
not_empty (b ∷ bs) left some = λ e. cc

cut_all : (held left new line rest : List ℕ) (r : Result Next LineError) → 0 < length held →
    line_of (held ++ left) ≡ line → after_line (held ++ left) ≡ rest ++ left → CutsFront line rest held new r →
    CutsAll (held ++ left) (new ++ left) r
cut_all held left new line rest (Ok (Line text)) some is_front is_rest cut =
    (not_empty held left some, rw is_front cut.0, rw is_front cut.1, rw (is_rest, cut.2) refl)
cut_all held left new line rest (Ok End) some is_front is_rest cut = absurd cut
cut_all held left new line rest (Ok TooLong) some is_front is_rest cut = (rw is_front cut.0, rw cut.1 refl)
cut_all held left new line rest (Ok NotUtf8) some is_front is_rest cut =
    (rw is_front cut.0, rw is_front cut.1, rw cut.2 refl)
cut_all held left new line rest (Err error) some is_front is_rest cut = tt

-- a line that ends within the held bytes
pub cut_told : (held new : List ℕ) (content : Option (List ℕ)) (len : ℕ) (r : Result Next LineError) →
    EndsAt len held → CutsFront (take len held) (drop (len + 1) held) held new r →
    Cuts (all_told held content) (all_told new content) r
cut_told held new None len r at cut = tt
cut_told held new (Some left) len r at cut =
    let some : 0 < length held = omega (arith, at.within) in
    cut_all held left new (take len held) (drop (suc len) held) r some (line_held held left len at)
    (after_held held left len at) (rw add-one at cut)

-- the tests of a line
pub short_front : (xs : List ℕ) (len : ℕ) → len ≤ 65536 → is_too_long (take len xs) ≡ false
short_front xs len small = le-ltb 65536 (length (take len xs)) (omega (arith, length-take len xs))

pub is_utf8-no : (line : List ℕ) → (IsUtf8 line → ⊥) → is_utf8 line ≡ false
is_utf8-no line never = false_if_not (is_utf8 line) (λ e. never (IsUtf8-from_is_utf8 line e))

pub is_line-yes : (line : List ℕ) → is_too_long line ≡ false → IsUtf8 line → is_line line ≡ true
is_line-yes line short text = rw short (is_utf8-from_IsUtf8 line text)

-- where all held bytes are one line, behind which nothing is left
pub last_none : (held : List ℕ) → length held ≡ 0 → CutsLast held held (Ok End)
last_none [] empty = (refl, refl)
last_none (b ∷ bs) empty = absurd (omega arith)

pub last_some : (held new : List ℕ) (r : Result Next LineError) → 0 < length held →
    CutsFront (take (length held) held) (drop (length held) held) held new r → CutsLast held new r
last_some [] new r some cut = absurd (omega arith)
last_some (b ∷ bs) new r some cut =
    let behind : CutsFront (take (length (b ∷ bs)) (b ∷ bs)) [] (b ∷ bs) new r =
    subst (λ l. CutsFront (take (length (b ∷ bs)) (b ∷ bs)) l (b ∷ bs) new r) (drop-length (b ∷ bs)) cut in
    subst (λ l. CutsFront l [] (b ∷ bs) new r) (take-length (b ∷ bs)) behind

last_all : (held left new : List ℕ) (r : Result Next LineError) → line_of held ≡ held → left ≡ [] →
    CutsLast held new r → CutsAll (held ++ left) (new ++ left) r
last_all [] left new r whole none last = rw (last.0, last.1, none) (refl, refl)
last_all (b ∷ bs) left new r whole none last =
    cut_all (b ∷ bs) left new (b ∷ bs) [] r (omega arith)
    (line_of-append (b ∷ bs) left whole ∙ rw none (append-nil (b ∷ bs)))
    (after_line-append (b ∷ bs) left whole ∙ rw none refl) last

pub last_told : (held new : List ℕ) (content : Option (List ℕ)) (r : Result Next LineError) →
    line_of held ≡ held → IsAtEnd content → CutsLast held new r →
    Cuts (all_told held content) (all_told new content) r
last_told held new None r whole end last = tt
last_told held new (Some left) r whole end last = last_all held left new r whole end last

-- where more bytes than a line may have are no whole line yet
pub long_told : (held : List ℕ) (content : Option (List ℕ)) → line_of held ≡ held → 65536 < length held →
    Cuts (all_told held content) (all_told held content) (Ok TooLong)
long_told held None whole long = tt
long_told held (Some left) whole long = (
  rw (line_of-append held left whole)
      (lt-ltb 65536 (length (held ++ line_of left)) (omega (arith, length-append held (line_of left)))),
  refl,
)

-- bytes that were pulled behind the held ones, none in number
pub same_if_none : (old new : List ℕ) → take (length old) new ≡ old → length new ≡ length old → new ≡ old
same_if_none old new front none = sym (subst (λ n. take n new ≡ new) none (take-length new)) ∙ front
