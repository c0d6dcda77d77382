-- The tokens of a text, but its End and each `;`, stay among their marks.
use Rattle.std.proofs.Common.{◌≡◌, ℕ, zero, suc, ◌==◌, Bool, true, false, cond, List, [], ◌∷◌, ◌++◌, length, Option, Some, None, Result, Ok, Err, refl, sym, ap, ◌∙◌}
use Rattle.qtt_base.specs.declared.place.Span.{Span}
use Rattle.qtt_lexer.specs.Lexed.{Mistake}
use Rattle.qtt_lexer.specs.declared.token.Token.{Token}
use Rattle.qtt_layout.specs.Laws.{tokens_in, kept_by, kept}
use Rattle.qtt_layout.specs.Marks.{counted, next_before}
use Rattle.qtt_layout.specs.Rules.{State, Put, start, role_of, newest, opens, empty_block, closes, without_newest, next_at, aligned, aligned_at, right_of, by_column, closed_by, item_of, added, behind, at_end, put_before, by_put, by_role, put_from, counted_of, laid}
use Rattle.qtt_layout.specs.declared.block.Block.{Block}
use Rattle.qtt_layout.specs.declared.laid.Laid.{Laid}
use Rattle.qtt_layout.specs.declared.laid.Laid.TheVariants.{Open, Next, Close, Tok}
use Rattle.qtt_layout.specs.declared.role.Role.{Role}
use Rattle.qtt_layout.specs.declared.role.Role.TheVariants as role

next_tokens : (s : Span) (ms : List Laid) → tokens_in (next_before s ms) ≡ tokens_in ms
next_tokens s [] = refl
next_tokens s (Open r ∷ ms) = refl
next_tokens s (Next r ∷ ms) = refl
next_tokens s (Close r ∷ ms) = refl
next_tokens s (Tok t ∷ ms) = refl

counted_tokens : (ms : List Laid) → tokens_in (counted ms) ≡ tokens_in ms
counted_tokens [] = refl
counted_tokens (Open s ∷ ms) = counted_tokens ms
counted_tokens (Next s ∷ ms) = next_tokens s (counted ms) ∙ counted_tokens ms
counted_tokens (Close s ∷ ms) = counted_tokens ms
counted_tokens (Tok t ∷ ms) = ap (λ (ts : List Token). t ∷ ts) (counted_tokens ms)

tokens_append : (ms ns : List Laid) → tokens_in (ms ++ ns) ≡ tokens_in ms ++ tokens_in ns
tokens_append [] ns = refl
tokens_append (Open s ∷ ms) ns = tokens_append ms ns
tokens_append (Next s ∷ ms) ns = tokens_append ms ns
tokens_append (Close s ∷ ms) ns = tokens_append ms ns
tokens_append (Tok t ∷ ms) ns = ap (λ (ts : List Token). t ∷ ts) (tokens_append ms ns)

none_behind : (ms ns : List Laid) → tokens_in ms ≡ [] → tokens_in (ms ++ ns) ≡ tokens_in ns
none_behind ms ns h = tokens_append ms ns ∙ ap (λ (ts : List Token). ts ++ tokens_in ns) h

closes_none : (n : ℕ) (s : Span) → tokens_in (closes n s) ≡ []
closes_none zero s = refl
closes_none (suc n) s = closes_none n s

empty_none : (b : Bool) (s : Span) → tokens_in (cond b (Open s ∷ Close s ∷ []) []) ≡ []
empty_none true s = refl
empty_none false s = refl

next_none : (b : Bool) (s : Span) → tokens_in (cond b (Next s ∷ []) []) ≡ []
next_none true s = refl
next_none false s = refl

-- the marks before a token have none
abbrev Has_none : Option Put → Type 0
Has_none None = Unit {0}
Has_none (Some put) = tokens_in put.marks ≡ []

none_if : (b : Bool) (o p : Option Put) → Has_none o → Has_none p → Has_none (cond b o p)
none_if true o p h k = h
none_if false o p h k = k

aligned_none : (s : Span) (marks : List Laid) (blocks : List Block) (o : Option Block) → tokens_in marks ≡ [] →
    Has_none (aligned s marks blocks o)
aligned_none s marks blocks None h = tt
aligned_none s marks blocks (Some block) h =
    none_behind marks (next_at block s) h ∙ next_none (block.col == s.col) s

column_none : (s : State) (t : Token) → Has_none (by_column s t)
column_none s t =
    let n = right_of t.span.col s.blocks in
    none_if (opens s t) _ _ refl
    (none_if (t.span.line == s.line) _ (aligned_at s t.span) (empty_none s.awaits t.span)
    (aligned_none t.span (empty_block s t.span ++ closes n t.span) (without_newest n s.blocks)
    (newest (without_newest n s.blocks))
    (none_behind (empty_block s t.span) (closes n t.span) (empty_none s.awaits t.span) ∙ closes_none n t.span)))

before_ok : (marks : List Laid) (r : Result (List Laid) Mistake) (ms : List Laid) →
    put_before marks r ≡ Ok ms → (rest : List Laid) × (r ≡ Ok rest) × (marks ++ rest ≡ ms)
before_ok marks (Ok rest) ms h = (rest, refl, let e = h in cc)
before_ok marks (Err m) ms h = absurd (let e = h in cc)

module _ (s : State) (t : Token) (rest : State → Result (List Laid) Mistake) (ms : List Laid) (ks : List Token)
    (later : (next : State) (ns : List Laid) → rest next ≡ Ok ns → tokens_in ns ≡ ks) where
  put_tokens : (r : Role) (o : Option Put) → Has_none o → by_put r s t o rest ≡ Ok ms →
      tokens_in ms ≡ tokens_in (item_of r t ∷ []) ++ ks
  put_tokens r None none h = absurd (let e = h in cc)
  put_tokens r (Some put) none h =
      let n = closed_by r s.brackets put.blocks in
      let own = added r s t put.blocks in
      let parts = before_ok (put.marks ++ own) (rest (behind r s t put.blocks)) ms h in
      ap tokens_in (sym parts.2)
      ∙ tokens_append (put.marks ++ own) parts.0
      ∙ ap (λ (ts : List Token). ts ++ tokens_in parts.0)
      (none_behind put.marks own none ∙
      none_behind (closes n t.span) (item_of r t ∷ []) (closes_none n t.span))
      ∙ ap (λ (ts : List Token). tokens_in (item_of r t ∷ []) ++ ts)
      (later (behind r s t put.blocks) parts.0 parts.1)

  role_tokens : (r : Role) → by_role r s t rest ≡ Ok ms → tokens_in ms ≡ kept_by r t ks
  role_tokens role.Opener h = put_tokens role.Opener (by_column s t) (column_none s t) h
  role_tokens role.LeftBracket h = put_tokens role.LeftBracket (by_column s t) (column_none s t) h
  role_tokens role.RightBracket h = put_tokens role.RightBracket (by_column s t) (column_none s t) h
  role_tokens role.Semicolon h = put_tokens role.Semicolon (by_column s t) (column_none s t) h
  role_tokens role.End h =
      let same : at_end s t ≡ ms = (let e = h in cc) in
      ap tokens_in (sym same) ∙
      none_behind (empty_block s t.span) (closes (length s.blocks) t.span) (empty_none s.awaits t.span) ∙
      closes_none (length s.blocks) t.span
  role_tokens role.Plain h = put_tokens role.Plain (by_column s t) (column_none s t) h

put_from_tokens : (ts : List Token) (s : State) (ms : List Laid) → put_from s ts ≡ Ok ms → tokens_in ms ≡ kept ts
unfolding put_from
put_from_tokens [] s ms h = let same : [] ≡ ms = (let e = h in cc) in sym (ap tokens_in same)
put_from_tokens (t ∷ ts) s ms h =
    role_tokens s t (λ next. put_from next ts) ms (kept ts) (λ next ns k. put_from_tokens ts next ns k)
    (role_of t.kind) h

counted_ok : (r : Result (List Laid) Mistake) (ms : List Laid) → counted_of r ≡ Ok ms →
    (ns : List Laid) × (r ≡ Ok ns) × (counted ns ≡ ms)
counted_ok (Ok ns) ms h = (ns, refl, let e = h in cc)
counted_ok (Err m) ms h = absurd (let e = h in cc)

pub laid_tokens : (ts : List Token) (ms : List Laid) → laid ts ≡ Ok ms → tokens_in ms ≡ kept ts
unfolding laid
laid_tokens ts ms h =
    let parts = counted_ok (put_from start ts) ms h in
    ap tokens_in (sym parts.2) ∙ counted_tokens parts.0 ∙ put_from_tokens ts start parts.0 parts.1
