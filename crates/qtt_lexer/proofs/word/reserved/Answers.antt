use Rattle.std.proofs.Common.{ap, sym}
use Rattle.qtt_lexer.specs.Piece.{reserved, reserved_words}
use Rattle.qtt_lexer.proofs.Words.{listed_none}
use Rattle.qtt_lexer.proofs.word.reserved.Goals as goal

pub returns-in-module : goal.returns-in-module
unfolding reserved
returns-in-module c = sym (ap reserved c.in-module.is)

pub returns-in-import : goal.returns-in-import
unfolding reserved
returns-in-import c = sym (ap reserved c.in-import.is)

pub returns-in-data : goal.returns-in-data
unfolding reserved
returns-in-data c = sym (ap reserved c.in-data.is)

pub returns-in-where : goal.returns-in-where
unfolding reserved
returns-in-where c = sym (ap reserved c.in-where.is)

pub returns-in-do : goal.returns-in-do
unfolding reserved
returns-in-do c = sym (ap reserved c.in-do.is)

pub returns-in-let : goal.returns-in-let
unfolding reserved
returns-in-let c = sym (ap reserved c.in-let.is)

pub returns-in-in : goal.returns-in-in
unfolding reserved
returns-in-in c = sym (ap reserved c.in-in.is)

pub returns-in-partial : goal.returns-in-partial
unfolding reserved
returns-in-partial c = sym (ap reserved c.in-partial.is)

pub returns-in-the : goal.returns-in-the
unfolding reserved
returns-in-the c = sym (ap reserved c.in-the.is)

pub returns-in-Type : goal.returns-in-Type
unfolding reserved
returns-in-Type c = sym (ap reserved c.in-Type.is)

pub returns-in-text : goal.returns-in-text
unfolding reserved
returns-in-text c = sym (ap reserved c.in-text.is)

pub returns-in_default : goal.returns-in_default
unfolding reserved
returns-in_default c = sym
    (listed_none reserved_words c.args.word.now (
      c.in_default.not-module,
      (
        c.in_default.not-import,
        (
          c.in_default.not-data,
          (
            c.in_default.not-where₀,
            (
              c.in_default.not-do,
              (
                c.in_default.not-let,
                (
                  c.in_default.not-in,
                  (
                    c.in_default.not-partial,
                    (c.in_default.not-the, (c.in_default.not-Type, (c.in_default.not-text, tt))),
                  ),
                ),
              ),
            ),
          ),
        ),
      ),
    ))
