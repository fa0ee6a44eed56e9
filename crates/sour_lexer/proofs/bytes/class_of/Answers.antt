use Rattle.std.proofs.Common.{◌≡◌, ℕ, ◌<◌, Bool, map, eqb, get_or, refl, sym, ap, ◌∙◌, arith}
use Rattle.std.specs.Prelude.{nat_le}
use Rattle.std.specs.List.{range_with_len}
use Rattle.std.specs.Char.{is_ascii_digit}
use Rattle.std.proofs.lemmas.List.{get_or-map}
use Rattle.std.proofs.lemmas.List.FromFn.{get_or-map-range_with_len}
use Rattle.sour_tokens.specs.Byte.{is_line_feed, is_blank, begins_word, continues_word}
use Rattle.sour_lexer.specs.declared.bytes.TheConstants.{CLASSES}
use Rattle.sour_lexer.proofs.bytes.class_of.Goals as goal

-- a test of classes that agrees with a test of bytes at each byte
in_table : (test p : ℕ → Bool) (byte : ℕ) → map test CLASSES ≡ map p (range_with_len 0 256) → byte < 256
    → test (get_or CLASSES byte 0) ≡ p byte
in_table test p byte agree within =
    sym (get_or-map test CLASSES byte 0 (test 0) within) ∙ ap (λ x. get_or x byte (test 0)) agree
    ∙ get_or-map-range_with_len p 0 256 byte byte (test 0) within (omega arith)

pub returns : goal.returns
returns c =
    let byte = c.args.byte in
    let within : byte < 256 = omega arith in
    record {
      letter = in_table (λ x. eqb x 65) begins_word byte refl within;
      digit = in_table (λ x. eqb x 48) is_ascii_digit byte refl within;
      word = in_table (λ x. nat_le x 65) continues_word byte refl within;
      blank = in_table (λ x. eqb x 66) is_blank byte refl within;
      line_feed = in_table (λ x. eqb x 76) is_line_feed byte refl within;
      comment = in_table (λ x. eqb x 67) (λ x. eqb x 35) byte refl within;
    }
