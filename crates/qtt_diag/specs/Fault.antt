-- What a refusal keeps of a fault of reading: of its kind, its word and its count.
use Rattle.std.specs.Prelude.{◌≡◌, ℕ, ◌==◌, ◌&&◌, not, if◌then◌else◌, List, [], ◌∷◌, map, codes, encode_utf8, Option, Some, None, option_map}
use Rattle.std.specs.List.{find, slice_get}
use Rattle.std.specs.Str.{bytes_eq, chars, is_utf8}
use Rattle.qtt_base.specs.Limits.{words_of}
use Rattle.qtt_base.specs.Parts.{has_long_part}
use Rattle.qtt_base.specs.declared.limits.Quantity.{Quantity}
use Rattle.qtt_base.specs.declared.limits.Quantity.TheVariants.{TextBytes, Modules, Items, Constructors, Parts, Clauses, Leaves, Statements, LiteralBytes, TypeNumber, Blocks, Instructions, FilledNodes}
use Rattle.qtt_term.specs.Entries.{Entries}
use Rattle.qtt_rules.specs.Refusal.{Cause}
use Rattle.qtt_diag.specs.Kept.{Detail}
use Rattle.qtt_diag.specs.Messages.{told}

-- the number of the first character that bytes spell
unfoldable pub character_spelled : List ℕ → Option ℕ
character_spelled word = if is_utf8 word then slice_get (chars word) 0 else None

-- the name that bytes spell
abbrev pub name_spelled : List ℕ → Option (List ℕ)
name_spelled word = if is_utf8 word && not (has_long_part word) then Some word else None

abbrev pub quantities : List Quantity
quantities =
    TextBytes ∷ Modules ∷ Items ∷ Constructors ∷ Parts ∷ Clauses ∷ Leaves ∷ Statements ∷ LiteralBytes ∷ TypeNumber
    ∷ Blocks ∷ Instructions ∷ FilledNodes ∷ []

-- the quantity of these words
abbrev pub quantity_named : List ℕ → Option Quantity
quantity_named word = find (λ q. bytes_eq (words_of q) word) quantities

-- of the kinds that have no word
abbrev pub bare_detail : ℕ → Option Detail
bare_detail kind =
    if kind == 1 then Some Detail.not_utf8
    else (if kind == 3 then Some Detail.open_text
    else (if kind == 4 then Some Detail.open_comment
    else (if kind == 5 then Some Detail.number_too_wide
    else (if kind == 6 then Some Detail.name_too_long
    else (if kind == 7 then Some Detail.bad_indent
    else (if kind == 9 then Some Detail.too_deep
    else None))))))

-- of characters, tokens, blocks and the grammar, of names, and of limits
abbrev pub fault_detail : ℕ → List ℕ → ℕ → Option Detail
fault_detail kind word count =
    if kind == 2 then option_map (λ c. Detail.bad_character c) (character_spelled word)
    else (if kind == 8 then Some (Detail.unexpected word)
    else (if kind == 10 then option_map (λ n. Detail.unbound n) (name_spelled word)
    else (if kind == 11 then option_map (λ n. Detail.ambiguous n) (name_spelled word)
    else (if kind == 12 then option_map (λ n. Detail.duplicate n) (name_spelled word)
    else (if kind == 31 then option_map (λ q. Detail.premise (Cause.limit q count)) (quantity_named word)
    else bare_detail kind)))))

-- the number that is told is that of the fault
abbrev pub FaultsKeepTheirKinds : Type 0
FaultsKeepTheirKinds = (N : Entries) (kind count : ℕ) (word : List ℕ) (d : Detail) →
    fault_detail kind word count ≡ Some d → (told N d).kind ≡ kind

-- ---- worked
pub record FaultRows : Type 0 where
  pub found_word : fault_detail 8 (codes "end") 0 ≡ Some (Detail.unexpected (codes "end"))
  pub sign : fault_detail 2 (codes "#") 0 ≡ Some (Detail.bad_character 35)
  pub picture : fault_detail 2 (encode_utf8 0x1F600) 0 ≡ Some (Detail.bad_character 0x1F600)
  pub name : fault_detail 10 (codes "A.y") 0 ≡ Some (Detail.unbound (codes "A.y"))
  pub bytes : fault_detail 31 (codes "bytes of a module text") 1048577
      ≡ Some (Detail.premise (Cause.limit TextBytes 1048577))
  -- the words of each quantity are its own
  pub words : map (λ q. quantity_named (words_of q)) quantities ≡ map (λ q. Some q) quantities
  pub no_reading : fault_detail 13 [] 0 ≡ None
