-- A name of 256 bytes is too long.
use Rattle.std.proofs.Common.{◌≡◌, ℕ, zero, suc, ◌==◌, ◌&&◌, ◌||◌, Bool, true, false, cond, None, List, [], ◌∷◌, length, replicate, encode_utf8, refl, sym, ap, subst, ◌∙◌, append-nil, length-append, arith}
use lib.Utf8.{encode}
use Rattle.std.specs.Str.{StartsWithNoChar}
use Rattle.std.proofs.lemmas.Str.{length-encode, len_utf8_bounds}
use Rattle.qtt_lexer.specs.Characters.{begins, begins_part, goes_on}
use Rattle.qtt_lexer.specs.Forms.{all_go_on}
use Rattle.qtt_lexer.specs.Forms.IsGap.{blank}
use Rattle.qtt_lexer.specs.Piece.{reserved}
use Rattle.qtt_lexer.specs.declared.front.Front.TheVariants as front
use Rattle.qtt_lexer.specs.declared.piece.Piece.TheVariants.{Gap}
use Rattle.qtt_lexer.proofs.Ascii.{begins_part-ascii, continues_part-ascii}
use Rattle.qtt_lexer_laws.specs.Characters.{Spell}
use Rattle.qtt_lexer_laws.specs.Characters.IsBehindMark.{unmarked}
use Rattle.qtt_lexer_laws.specs.Cuts.{IsWord, EndBefore, IsWhole}
use Rattle.qtt_lexer_laws.specs.Examples.{at, fault}
use Rattle.qtt_lexer_laws.specs.Flaws.{flaw, FirstFault}
use Rattle.qtt_lexer_laws.specs.Flaws.IsFlaw.{name, hole}
use Rattle.qtt_lexer_laws.proofs.Exact.{piece_is}
use Rattle.qtt_lexer_laws.proofs.Standing.{AtMost, ends}

goes : (cs : List ℕ) → goes_on 97 cs ≡ true
goes cs = ap (λ (b : Bool). b || ((97 == 46) && begins begins_part cs)) (continues_part-ascii 97 (omega arith))

all_go : (n : ℕ) → all_go_on (replicate n 97) ≡ true
all_go zero = refl
all_go (suc n) =
    ap (λ (b : Bool). cond b (all_go_on (replicate n 97)) false) (goes (replicate n 97)) ∙ all_go n

long : IsWord 97 (replicate 255 97)
long = record { begins = begins_part-ascii 97 (omega arith); goes_on = all_go 255 }

nothing_more : StartsWithNoChar []
nothing_more c rest scalar e =
    absurd (omega (
      arith,
      ap length e,
      length-append (encode_utf8 c) rest,
      length-encode c,
      (len_utf8_bounds c).0,
    ))

at_the_end : (cs : List ℕ) → EndBefore cs []
at_the_end cs more rest e some together = absurd (omega (arith, ap length e, length-append more rest, some))

blank_whole : (behind : List ℕ) → IsWhole (record { kind = None; characters = 32 ∷ [] }) behind
blank_whole behind = record {
  some = omega arith;
  form = blank 32 refl;
  longest = ends false (32 ∷ behind) (32 ∷ []) behind refl
      (subst (AtMost 1) (sym (piece_is false 32 behind front.Blank (Gap 1) refl refl)) (omega arith));
}

name_spelled : Spell (32 ∷ replicate 256 97) (32 ∷ replicate 256 97) []
unfolding encode
name_spelled =
    let cs = 32 ∷ replicate 256 97 in
    record {
      front = cs;
      whole = append-nil cs;
      utf8 = (cs, (refl, refl));
      no_more = nothing_more;
      all = cs;
      spelled = refl;
      behind_mark = unmarked cs refl;
    }

hole_spelled : Spell (32 ∷ 63 ∷ replicate 256 97) (32 ∷ 63 ∷ replicate 256 97) []
unfolding encode
hole_spelled =
    let cs = 32 ∷ 63 ∷ replicate 256 97 in
    record {
      front = cs;
      whole = append-nil cs;
      utf8 = (cs, (refl, refl));
      no_more = nothing_more;
      all = cs;
      spelled = refl;
      behind_mark = unmarked cs refl;
    }

pub long_name : FirstFault (32 ∷ replicate 256 97) (fault 6 (at 1 2 256) [])
unfolding encode
long_name = record {
  cuts = record { kind = None; characters = 32 ∷ [] } ∷ [];
  behind = replicate 256 97;
  rest = [];
  spelled = name_spelled;
  whole = (blank_whole (replicate 256 97), tt);
  flaw = flaw 6 [] 256 [];
  stands = name [] 97 (replicate 255 97) [] (replicate 256 97) long (at_the_end (replicate 256 97)) refl
      (ap (λ (cs : List ℕ). 97 ∷ cs) (sym (append-nil (replicate 255 97))));
  says = refl;
}

pub long_hole : FirstFault (32 ∷ 63 ∷ replicate 256 97) (fault 6 (at 1 3 256) [])
unfolding encode reserved
long_hole = record {
  cuts = record { kind = None; characters = 32 ∷ [] } ∷ [];
  behind = 63 ∷ replicate 256 97;
  rest = [];
  spelled = hole_spelled;
  whole = (blank_whole (63 ∷ replicate 256 97), tt);
  flaw = flaw 6 (63 ∷ []) 256 [];
  stands = hole [] 97 (replicate 255 97) [] (63 ∷ replicate 256 97) long (at_the_end (63 ∷ replicate 256 97)) refl refl
      (ap (λ (cs : List ℕ). 63 ∷ 97 ∷ cs) (sym (append-nil (replicate 255 97))));
  says = refl;
}
