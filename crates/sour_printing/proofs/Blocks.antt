-- The bytes of lines, bodies, versions and functions, one after the other.
use Rattle.std.proofs.Common.{◌≡◌, ◌+◌, ◌≤◌, ℕ, suc, List, [], ◌∷◌, ◌++◌, Option, None, Some, length, map, take, append_assoc, append-nil, refl, sym, ap, ◌∙◌, arith}
use Rattle.std.specs.List.{slice_get}
use Rattle.std.proofs.lemmas.List.{map-append, take_all, length-take-le}
use Rattle.std.proofs.lemmas.Option.{slice_get_within}
use Rattle.sour_syntax.specs.declared.instruction.Line.{Line}
use Rattle.sour_syntax.specs.declared.program.Function.{Function}
use Rattle.sour_syntax.specs.BodyView.{BodyView}
use Rattle.laws_printing.specs.Bundles.{body_lines, bodies_lines}
use Rattle.laws_printing.specs.Named.{raw_instr, raw_label, raw_lines, raw_version, raw_versions, raw_function, raw_functions}
use Rattle.laws_printing.specs.Numbered.{version_height, function_height}
use Rattle.laws_printing.specs.Pieces.{Piece, instr_pieces, labelled_pieces, line_pieces, version_lines, versions_lines, function_lines, functions_lines}
use Rattle.laws_printing.specs.Text.{bytes_of, text_of}
use Rattle.laws_printing.proofs.Joined.{joined_text}
use Rattle.sour_printing.proofs.Lists.{take_more}

-- a label, and then what it stands before
pub labelled_bytes : (label : Option (List ℕ)) (pieces : List Piece)
    → bytes_of (labelled_pieces label pieces) ≡ bytes_of (labelled_pieces label []) ++ bytes_of pieces
labelled_bytes None pieces = refl
labelled_bytes (Some label) pieces = sym (append_assoc label (58 ∷ 32 ∷ []) (bytes_of pieces))

-- ---- lines

module _ (functions : List Function) (names : List (List ℕ)) where
  -- the bytes of the line at a place
  abbrev pub line_text : ℕ → Line → List ℕ
  line_text place line =
      text_of (labelled_pieces (raw_label place line.label) (instr_pieces (raw_instr functions names line.instr)) ∷ [])

  -- the bytes of lines, the first of which stands at this place and on this line of the text
  abbrev pub lines_text : ℕ → ℕ → List Line → List ℕ
  lines_text number start lines = text_of (map line_pieces (raw_lines functions names number start lines))

  -- one more line
  lines_push : (number start place : ℕ) (front : List Line) (line : Line) → place ≡ start + length front
      → lines_text number start (front ++ line ∷ []) ≡ lines_text number start front ++ line_text place line
  lines_push number start place [] line is =
      let here : start ≡ place = omega (arith, is) in ap (λ n. line_text n line) here
  lines_push number start place (first ∷ front) line is =
      let bytes : List ℕ =
      bytes_of (labelled_pieces (raw_label start first.label) (instr_pieces (raw_instr functions names first.instr))) in
      ap (λ (rest : List ℕ). bytes ++ 10 ∷ rest)
      (lines_push (number + 1) (suc start) place front line (omega (arith, is)))
      ∙ sym (append_assoc bytes (10 ∷ lines_text (number + 1) (suc start) front) (line_text place line))

  -- the bytes of the lines so far, and of the next
  pub lines_more : (lines : List Line) (place : ℕ) (line : Line) (start before now : List ℕ)
      → slice_get lines place ≡ Some line
      → ((number : ℕ) → before ≡ start ++ lines_text number 0 (take place lines)) → now ≡ before ++ line_text place line
      → (number : ℕ) → now ≡ start ++ lines_text number 0 (take (place + 1) lines)
  lines_more lines place line start before now at so_far put number =
      let within = slice_get_within lines place line at in
      let here : place ≡ 0 + length (take place lines) =
      omega (arith, length-take-le place lines (omega (arith, within))) in
      put ∙ ap (λ (bytes : List ℕ). bytes ++ line_text place line) (so_far number)
      ∙ append_assoc start (lines_text number 0 (take place lines)) (line_text place line)
      ∙ ap (λ (bytes : List ℕ). start ++ bytes)
      (sym (lines_push number 0 place (take place lines) line here)
      ∙ ap (lines_text number 0) (sym (take_more lines place line at)))

  -- all of the lines
  pub lines_all : (lines : List Line) (place : ℕ) (start now : List ℕ) → length lines ≤ place
      → ((number : ℕ) → now ≡ start ++ lines_text number 0 (take place lines)) → (number : ℕ)
      → now ≡ start ++ lines_text number 0 lines
  lines_all lines place start now end so_far number =
      so_far number ∙ ap (λ (some : List Line). start ++ lines_text number 0 some) (take_all place lines end)

-- ---- bundles

module _ {X : Type 0} (f : X → List Piece) where
  -- the bytes of the lines so far, and of the next
  pub text_more : (xs : List X) (place : ℕ) (x : X) (start before now : List ℕ) → slice_get xs place ≡ Some x
      → before ≡ start ++ text_of (map f (take place xs)) → now ≡ before ++ text_of (f x ∷ [])
      → now ≡ start ++ text_of (map f (take (place + 1) xs))
  text_more xs place x start before now at so_far put =
      put ∙ ap (λ (bytes : List ℕ). bytes ++ text_of (f x ∷ [])) so_far
      ∙ append_assoc start (text_of (map f (take place xs))) (text_of (f x ∷ []))
      ∙ ap (λ (bytes : List ℕ). start ++ bytes)
      (sym (ap text_of (ap (map f) (take_more xs place x at) ∙ map-append f (take place xs) (x ∷ []))
      ∙ joined_text (map f (take place xs)) (f x ∷ [])))

  -- all of the lines
  pub text_all : (xs : List X) (place : ℕ) (start now : List ℕ) → length xs ≤ place
      → now ≡ start ++ text_of (map f (take place xs)) → now ≡ start ++ text_of (map f xs)
  text_all xs place start now end so_far =
      so_far ∙ ap (λ (some : List X). start ++ text_of (map f some)) (take_all place xs end)

module _ (functions : List Function) (bodies : List BodyView) where
  -- the bytes of some bodies, the first of which has this number
  abbrev pub bodies_text : ℕ → List BodyView → List ℕ
  bodies_text number some = text_of (bodies_lines functions bodies number some)

  -- one more body
  bodies_push : (number place : ℕ) (front : List BodyView) (body : BodyView) → place ≡ number + length front
      → bodies_text number (front ++ body ∷ [])
      ≡ bodies_text number front ++ text_of (body_lines functions bodies place body)
  bodies_push number place [] body is =
      let here : number ≡ place = omega (arith, is) in
      ap text_of (append-nil (body_lines functions bodies number body))
      ∙ ap (λ n. text_of (body_lines functions bodies n body)) here
  bodies_push number place (first ∷ front) body is =
      let own : List (List Piece) = body_lines functions bodies number first in
      joined_text own (bodies_lines functions bodies (number + 1) (front ++ body ∷ []))
      ∙ ap (λ (bytes : List ℕ). text_of own ++ bytes) (bodies_push (number + 1) place front body (omega (arith, is)))
      ∙ sym (append_assoc (text_of own) (bodies_text (number + 1) front)
      (text_of (body_lines functions bodies place body)))
      ∙ ap (λ (bytes : List ℕ). bytes ++ text_of (body_lines functions bodies place body))
      (sym (joined_text own (bodies_lines functions bodies (number + 1) front)))

  -- the bytes of the bodies so far, and of the next
  pub bodies_more : (some : List BodyView) (place : ℕ) (body : BodyView) (start before now : List ℕ)
      → slice_get some place ≡ Some body → before ≡ start ++ bodies_text 1 (take place some)
      → now ≡ before ++ text_of (body_lines functions bodies (place + 1) body)
      → now ≡ start ++ bodies_text 1 (take (place + 1) some)
  bodies_more some place body start before now at so_far put =
      let within = slice_get_within some place body at in
      let here : place + 1 ≡ 1 + length (take place some) =
      omega (arith, length-take-le place some (omega (arith, within))) in
      let own : List ℕ = text_of (body_lines functions bodies (place + 1) body) in
      put ∙ ap (λ (bytes : List ℕ). bytes ++ own) so_far
      ∙ append_assoc start (bodies_text 1 (take place some)) own
      ∙ ap (λ (bytes : List ℕ). start ++ bytes)
      (sym (bodies_push 1 (place + 1) (take place some) body here)
      ∙ ap (bodies_text 1) (sym (take_more some place body at)))

  -- all of the bodies
  pub bodies_all : (some : List BodyView) (place : ℕ) (start now : List ℕ) → length some ≤ place
      → now ≡ start ++ bodies_text 1 (take place some) → now ≡ start ++ bodies_text 1 some
  bodies_all some place start now end so_far =
      so_far ∙ ap (λ (them : List BodyView). start ++ bodies_text 1 them) (take_all place some end)

-- ---- versions and functions

-- the bytes of items are those of each, one after the other, where an item begins on the line behind the one before it
pub record AreBlocks {X : Type 0} (block : ℕ → X → List ℕ) (height : ℕ → X → ℕ)
    (blocks : ℕ → List X → List ℕ) : Type 0 where
  pub none : (number : ℕ) → blocks number [] ≡ []
  pub some : (number : ℕ) (x : X) (xs : List X)
      → blocks number (x ∷ xs) ≡ block number x ++ blocks (number + height number x) xs

module _ {X : Type 0} {block : ℕ → X → List ℕ} {height : ℕ → X → ℕ} {blocks : ℕ → List X → List ℕ}
    (are : AreBlocks block height blocks) where
  -- one more item, on some line
  blocks_push : (number : ℕ) (front : List X) (x : X)
      → (line : ℕ) × (blocks number (front ++ x ∷ []) ≡ blocks number front ++ block line x)
  blocks_push number [] x =
      let next : ℕ = number + height number x in (
        number,
        are.some number x [] ∙ ap (λ (bytes : List ℕ). block number x ++ bytes) (are.none next)
            ∙ append-nil (block number x)
            ∙ ap (λ (bytes : List ℕ). bytes ++ block number x) (sym (are.none number)),
      )
  blocks_push number (first ∷ front) x =
      let next : ℕ = number + height number first in
      let later = blocks_push next front x in (
        later.0,
        are.some number first (front ++ x ∷ []) ∙ ap (λ (bytes : List ℕ). block number first ++ bytes) later.1
            ∙ sym (append_assoc (block number first) (blocks next front) (block later.0 x))
            ∙ ap (λ (bytes : List ℕ). bytes ++ block later.0 x) (sym (are.some number first front)),
      )

  -- the bytes of the items so far, and of the next
  pub blocks_more : (xs : List X) (place : ℕ) (x : X) (start before now : List ℕ) → slice_get xs place ≡ Some x
      → ((number : ℕ) → before ≡ start ++ blocks number (take place xs))
      → ((number : ℕ) → now ≡ before ++ block number x)
      → (number : ℕ) → now ≡ start ++ blocks number (take (place + 1) xs)
  blocks_more xs place x start before now at so_far put number =
      let push = blocks_push number (take place xs) x in
      put push.0 ∙ ap (λ (bytes : List ℕ). bytes ++ block push.0 x) (so_far number)
      ∙ append_assoc start (blocks number (take place xs)) (block push.0 x)
      ∙ ap (λ (bytes : List ℕ). start ++ bytes) (sym push.1 ∙ ap (blocks number) (sym (take_more xs place x at)))

  -- all of the items
  pub blocks_all : (xs : List X) (place : ℕ) (start now : List ℕ) → length xs ≤ place
      → ((number : ℕ) → now ≡ start ++ blocks number (take place xs)) → (number : ℕ) → now ≡ start ++ blocks number xs
  blocks_all xs place start now end so_far number =
      so_far number ∙ ap (λ (some : List X). start ++ blocks number some) (take_all place xs end)

module _ (functions : List Function) where
  -- versions are such items
  pub are_versions : AreBlocks
      (λ number version. text_of (version_lines (raw_version functions number version)))
      (λ number version. version_height (raw_version functions number version))
      (λ number versions. text_of (versions_lines (raw_versions functions number versions)))
  are_versions = record {
    none = λ number. refl;
    some =
        λ number version versions. joined_text (version_lines (raw_version functions number version))
        (versions_lines
        (raw_versions functions (number + version_height (raw_version functions number version)) versions));
  }

  -- and so are functions
  pub are_functions : AreBlocks
      (λ number function. text_of (function_lines (raw_function functions number function)))
      (λ number function. function_height (raw_function functions number function))
      (λ number some. text_of (functions_lines (raw_functions functions number some)))
  are_functions = record {
    none = λ number. refl;
    some =
        λ number function others. joined_text (function_lines (raw_function functions number function))
        (functions_lines
        (raw_functions functions (number + function_height (raw_function functions number function)) others));
  }
