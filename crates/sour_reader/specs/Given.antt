-- What a function of the reader gives, set beside a reading of the grammar.
use Rattle.std.specs.Prelude.{◌≡◌, List, [], Result, Ok, Err}
use denote.Ref.{Bor}
use Rattle.sour_lexer.specs.declared.tokens.PlacedToken.{PlacedToken}
use Rattle.sour_lexer.specs.Placed.{Placed, all_placed}
use Rattle.sour_raw.specs.declared.kind.Kind.{Kind}
use Rattle.sour_raw.specs.Combinators.{Reading}
use Rattle.sour_reader.specs.declared.stop.Stop.{Stop}
use Rattle.sour_reader.specs.declared.stop.Stop.TheVariants as stop

-- what a function that failed read, unless memory ran out
abbrev pub Fails : {Y : Type 0} → Stop → Result Y (Kind × List Placed) → Type 0
Fails stop.Memory read = Unit {0}
Fails (stop.At kind rest) read = read ≡ Err (kind, all_placed rest.now)

-- a value with the tokens that are left
abbrev pub Left : Type 0 → Type 0
Left X = X × Bor (List PlacedToken)

-- the function returned what the reading gives for the tokens, unless memory ran out
abbrev pub Gives : {X : Type 0} → Result (Left X) Stop → Reading X → List PlacedToken → Type 0
Gives (Ok x) reading tokens = reading (all_placed tokens) ≡ Ok (x.0, all_placed x.1.now)
Gives (Err e) reading tokens = Fails e (reading (all_placed tokens))

-- the same of a function that returns the tokens that are left alone
abbrev pub Passes : Result (Bor (List PlacedToken)) Stop → Reading (Unit {0}) → List PlacedToken → Type 0
Passes (Ok rest) reading tokens = reading (all_placed tokens) ≡ Ok (tt, all_placed rest.now)
Passes (Err e) reading tokens = Fails e (reading (all_placed tokens))

-- the function returned what the reading gives for the tokens, all of them, unless memory ran out
abbrev pub GivesAll : {X : Type 0} → Result X Stop → Reading X → List PlacedToken → Type 0
GivesAll (Ok x) reading tokens = reading (all_placed tokens) ≡ Ok (x, [])
GivesAll (Err e) reading tokens = Fails e (reading (all_placed tokens))
