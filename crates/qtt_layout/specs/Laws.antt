-- What holds of tokens with their marks.
use Rattle.std.specs.Prelude.{ℕ, zero, suc, ◌&&◌, Bool, true, false, List, [], ◌∷◌, Option, Some, None}
use Rattle.qtt_lexer.specs.declared.token.Token.{Token}
use Rattle.qtt_layout.specs.Rules.{role_of}
use Rattle.qtt_layout.specs.declared.role.Role.{Role}
use Rattle.qtt_layout.specs.declared.role.Role.TheVariants as role
use Rattle.qtt_layout.specs.declared.laid.Laid.{Laid}
use Rattle.qtt_layout.specs.declared.laid.Laid.TheVariants.{Open, Next, Close, Tok}

-- the tokens among marks
abbrev pub tokens_in : List Laid → List Token
tokens_in [] = []
tokens_in (Open s ∷ ms) = tokens_in ms
tokens_in (Next s ∷ ms) = tokens_in ms
tokens_in (Close s ∷ ms) = tokens_in ms
tokens_in (Tok t ∷ ms) = t ∷ tokens_in ms

abbrev pub kept_by : Role → Token → List Token → List Token
kept_by role.Opener t rest = t ∷ rest
kept_by role.LeftBracket t rest = t ∷ rest
kept_by role.RightBracket t rest = t ∷ rest
kept_by role.Semicolon t rest = rest
kept_by role.End t rest = []
kept_by role.Plain t rest = t ∷ rest

-- the tokens before the end, without each `;`
abbrev pub kept : List Token → List Token
kept [] = []
kept (t ∷ ts) = kept_by (role_of t.kind) t (kept ts)

abbrev pub ends_by : Role → Bool → Bool
ends_by role.Opener rest = rest
ends_by role.LeftBracket rest = rest
ends_by role.RightBracket rest = rest
ends_by role.Semicolon rest = rest
ends_by role.End rest = true
ends_by role.Plain rest = rest

-- End is among the tokens
abbrev pub has_end : List Token → Bool
has_end [] = false
has_end (t ∷ ts) = ends_by (role_of t.kind) (has_end ts)

-- how many blocks are open behind marks, where so many are open before them; there is no number where a block
-- closes that is not open
abbrev pub open_behind : ℕ → List Laid → Option ℕ
open_behind n [] = Some n
open_behind n (Open s ∷ ms) = open_behind (suc n) ms
open_behind n (Next s ∷ ms) = open_behind n ms
open_behind zero (Close s ∷ ms) = None
open_behind (suc n) (Close s ∷ ms) = open_behind n ms
open_behind n (Tok t ∷ ms) = open_behind n ms

-- neither another Next nor a Close comes first
abbrev pub may_follow_next : List Laid → Bool
may_follow_next [] = true
may_follow_next (Open s ∷ ms) = true
may_follow_next (Next s ∷ ms) = false
may_follow_next (Close s ∷ ms) = false
may_follow_next (Tok t ∷ ms) = true

-- no Next stands directly before another one or before a Close
abbrev pub each_next_counts : List Laid → Bool
each_next_counts [] = true
each_next_counts (Open s ∷ ms) = each_next_counts ms
each_next_counts (Next s ∷ ms) = may_follow_next ms && each_next_counts ms
each_next_counts (Close s ∷ ms) = each_next_counts ms
each_next_counts (Tok t ∷ ms) = each_next_counts ms
