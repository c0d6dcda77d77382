-- Which characters form blanks, names and numbers.
use Rattle.std.specs.Prelude.{ℕ, Bool, false, ◌||◌, ◌&&◌, ◌==◌, List, [], ◌∷◌}
use Rattle.unicode_ident.specs.Ident.{is_xid_start, is_xid_continue}

-- space, tab, line feed and carriage return
abbrev pub is_blank : ℕ → Bool
is_blank c = (c == 32) || ((c == 9) || ((c == 10) || (c == 13)))

-- a part of a name begins with an identifier's first character or `_`
abbrev pub begins_part : ℕ → Bool
begins_part c = is_xid_start c || (c == 95)

-- and goes on with an identifier's characters or `'`
abbrev pub continues_part : ℕ → Bool
continues_part c = is_xid_continue c || (c == 39)

-- the first of the characters passes the test
abbrev pub begins : (ℕ → Bool) → List ℕ → Bool
begins test [] = false
begins test (c ∷ cs) = test c

-- a character belongs to the name before it where it continues a part, or is a dot directly before a part
abbrev pub goes_on : ℕ → List ℕ → Bool
goes_on c behind = continues_part c || ((c == 46) && begins begins_part behind)
