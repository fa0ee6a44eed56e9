-- What the loop over items does where an item fails, and what its test of room means.
use Rattle.std.proofs.Common.{◌≡◌, ℕ, zero, ◌<◌, true, false, List, length, Option, None, Some, arith}
use Rattle.sour_lexer.specs.Placed.{Placed, all_placed}
use Rattle.sour_raw.specs.Combinators.{Out, Items, next}
use Rattle.laws_grammar.proofs.Lists.{IsOpen}
use Rattle.laws_grammar.proofs.Loop as loop
use Rattle.laws_grammar.proofs.Loop.{read_from, room_left, open_left, none_left}
use Rattle.sour_reader.specs.declared.stop.Stop.{Stop}
use Rattle.sour_reader.specs.declared.stop.Stop.TheVariants as stop
use Rattle.sour_reader.specs.Given.{Fails}
use Rattle.sour_reader.specs.Room.{is_full}

-- where there aren't as many as there is room for, there is room for one more
pub has_room : (room : Option ℕ) (n : ℕ) → is_full room n ≡ false → IsOpen (room_left room n)
has_room None n e = tt
has_room (Some room) n e = open_left room n (grind arith)

-- where there are as many, there is room for none
pub no_room : (room : Option ℕ) (n : ℕ) → is_full room n ≡ true → room_left room n ≡ Some zero
no_room None n e = absurd cc
no_room (Some room) n e = none_left room n (grind arith)

-- where an item fails, all fails
pub fails : {St X : Type 0} (w : Items St X) (st : St) (e : Stop) (front : List X) (count i : ℕ) (room : Option ℕ) (ts : List Placed) (total : Out (List X))
    → i < count → next w.first ts ≡ true → IsOpen (room_left room (length front)) → Fails e (w.item st ts) → read_from w count i room front st ts ≡ total → Fails e total
fails w st stop.Memory front count i room ts total lt some left read so_far = tt
fails w st (stop.At kind rest) front count i room ts total lt some left read so_far =
    loop.fails w st front count i room ts (kind, all_placed rest.now) total lt some left read so_far

-- where an item is refused, all is
pub refuses : {St X : Type 0} (w : Items St X) (st : St) (e : Stop) (front : List X) (count i : ℕ) (room : Option ℕ) (ts : List Placed) (total : Out (List X))
    → i < count → next w.first ts ≡ true → room_left room (length front) ≡ Some zero → Fails e (w.over st ts) → read_from w count i room front st ts ≡ total → Fails e total
refuses w st stop.Memory front count i room ts total lt some full read so_far = tt
refuses w st (stop.At kind rest) front count i room ts total lt some full read so_far =
    loop.refuses w st front count i room ts (kind, all_placed rest.now) total lt some full read so_far
