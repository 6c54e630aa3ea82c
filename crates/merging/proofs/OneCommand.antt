-- One user's command, whatever it is: it sees and alters its issuer's own place and own entry alone.
use Rattle.std.specs.Prelude.{◌≡◌, refl, Bool, true, List, ℕ, ◌≤◌, length}
use Rattle.std.proofs.Common.{sym, ◌∙◌, true≢false}
use Rattle.std.proofs.Math.Path.{ap}
use Rattle.std.proofs.Math.Bool.{false}
use Rattle.std.specs.Prelude.{Option, None, Some}
use Rattle.std.proofs.Math.Dec.{eqb}
use borrow.Author.Tests.{ne_eqb}
use Rattle.state.specs.declared.Holdings.{Holdings}
use Rattle.state.specs.State.{Seat}
use Rattle.state.specs.State.{Bytes, find}
use Rattle.table.specs.Entries.{entry_of}
use Rattle.table.specs.Passwords.{sealed}
use Rattle.table.proofs.Laws.{sealed_eight}
use Rattle.state.specs.State.{seat_of}
use Rattle.rules.specs.World.{World, Own, own, shut_for, current, key1}
use Rattle.rules.specs.Commands.{Effect, refused, gives, keeps, leaves, enters, writes}
use Rattle.rules.specs.Step.{carry}
use Rattle.properties.specs.Single.{count}
use Rattle.properties.proofs.Single.{single_carried}
use Rattle.properties.proofs.Others.{give_other, leave_other}
use Rattle.properties.specs.Tables.{become}
use Rattle.properties.proofs.Tables.{enter_size, enter-own}
use Rattle.merging.specs.Ids.{mem}
use Rattle.merging.proofs.Ids.{mem_apart}
use Rattle.merging.specs.Demand3.{Request, serve}
use Rattle.merging.proofs.Places.{give-mine, give-length, leave-mine, leave-length, open_to}
use Rattle.merging.specs.Tables.{From}
use Rattle.merging.proofs.Tables.{entry_other, from_enter}
use Rattle.merging.specs.OneCommand.{Fine, Deed, Way, carried_by}

with_seat : Own → Option Holdings → Own
with_seat o h = record { current = o.current; old = o.old; due = o.due; fits = o.fits; entry = o.entry; seat = seat_of h }

with_entry : Own → Option Bytes → Own
with_entry o b = record { current = o.current; old = o.old; due = o.due; fits = o.fits; entry = b; seat = o.seat }

-- what the issuer's next command sees
advance : ℕ → Effect → Own → Own
advance u (refused n) o = o
advance u (gives n b) o = o
advance u (keeps h) o = with_seat o (Some h)
advance u leaves o = with_seat o None
advance u (enters password) o = with_entry o (become (sealed (current 1 o) u password) o.entry)
advance u (writes b h) o = with_seat o (Some h)

-- the table's length, and so whether it fits, stays
entered : (v u : ℕ) (password : Bytes) (w : World) (x : Option Bytes) → entry_of v (carry u (enters password) w).table ≡ x
    → own v (carry u (enters password) w) ≡ with_entry (own v w) x
unfolding with_entry
entered v u password w x q = rw (enter_size u (sealed (key1 w) u password) w.table (sealed_eight (key1 w) u password), q)

-- another's command leaves all that v's commands see
own_other : (v u : ℕ) (e : Effect) (w : World) → eqb v u ≡ false → own v (carry u e w) ≡ own v w
unfolding with_seat with_entry
own_other v u (refused n) w d = refl
own_other v u (gives n b) w d = refl
own_other v u (keeps h) w d = ap (with_seat (own v w)) (give_other v u h w.facility.places d)
own_other v u leaves w d = ap (with_seat (own v w)) (leave_other v u w.facility.places d)
own_other v u (enters password) w d =
    entered v u password w (entry_of v w.table) (entry_other u (sealed (key1 w) u password) w.table (sealed_eight (key1 w) u password) v d)
own_other v u (writes b h) w d = ap (with_seat (own v w)) (give_other v u h w.facility.places d)

-- what his own command makes of it
own-mine : (u : ℕ) (e : Effect) (w : World) → count u w.facility.places ≤ 1 → shut_for u w ≡ false → own u (carry u e w) ≡ advance u e (own u w)
unfolding advance with_seat with_entry
own-mine u (refused n) w c s = refl
own-mine u (gives n b) w c s = refl
own-mine u (keeps h) w c s = ap (with_seat (own u w)) (give-mine u h w.facility.places s)
own-mine u leaves w c s = ap (with_seat (own u w)) (leave-mine u w.facility.places c)
own-mine u (enters password) w c s =
    let b = sealed (key1 w) u password in entered u u password w (become b (entry_of u w.table)) (enter-own u b w.table (sealed_eight (key1 w) u password))
own-mine u (writes b h) w c s = ap (with_seat (own u w)) (give-mine u h w.facility.places s)

-- a seat tells what is held
pub seat-find : (o o' : Option Holdings) → seat_of o ≡ seat_of o' → o ≡ o'
unfolding seat_of
seat-find None None q = refl
seat-find None (Some h) q = absurd (true≢false (sym (ap (λ (s : Seat). s.active) q)))
seat-find (Some h) None q = absurd (true≢false (ap (λ (s : Seat). s.active) q))
seat-find (Some h) (Some h') q = ap {B = Option Holdings} (λ x. Some x) (ap (λ (s : Seat). s.holdings) q)

places_length : (u : ℕ) (e : Effect) (w : World) → length (carry u e w).facility.places ≡ length w.facility.places
places_length u (refused n) w = refl
places_length u (gives n b) w = refl
places_length u (keeps h) w = give-length u h w.facility.places
places_length u leaves w = leave-length u w.facility.places
places_length u (enters password) w = refl
places_length u (writes b h) w = give-length u h w.facility.places

table_from : (a : Bytes) (u : ℕ) (e : Effect) (w : World) → From a w.table → From a (carry u e w).table
table_from a u (refused n) w f = f
table_from a u (gives n b) w f = f
table_from a u (keeps h) w f = f
table_from a u leaves w f = f
table_from a u (enters password) w f = from_enter u (sealed (key1 w) u password) (sealed_eight (key1 w) u password) a w.table f
table_from a u (writes b h) w f = f

module _ {C : Type 0} (way : Way C) where
  -- u's request, where the facility is open to him
  pub does : ℕ → Own → Request C → Deed
  does u o q = way u q.command q.output false o

  -- what u's commands see after it
  pub then : ℕ → Own → Request C → Own
  then u o q = advance u (does u o q).effect o

  module _ (who : List ℕ) (a : Bytes) (w : World) (f : Fine who a w) (u : ℕ) (member : mem u who ≡ true) (q : Request C) where
    opened : shut_for u w ≡ false
    opened = open_to who w.facility.places f.single f.outside f.enough u member

    deed : Deed
    deed = way u q.command q.output (shut_for u w) (own u w)

    deed_does : deed ≡ does u (own u w) q
    unfolding deed does
    deed_does = ap (λ (b : Bool). way u q.command q.output b (own u w)) opened

    pub answer : (serve (carried_by way) w (u, q)).answered ≡ (does u (own u w) q).told
    unfolding deed
    answer = ap (λ (d : Deed). d.told) deed_does

    pub own_then : own u (serve (carried_by way) w (u, q)).world ≡ then u (own u w) q
    unfolding deed then
    own_then = own-mine u deed.effect w (f.single u) opened ∙ ap (λ (d : Deed). advance u d.effect (own u w)) deed_does

    pub own_stays : (v : ℕ) → eqb v u ≡ false → own v (serve (carried_by way) w (u, q)).world ≡ own v w
    unfolding deed
    own_stays v d = own_other v u deed.effect w d

    pub fine_then : Fine who a (serve (carried_by way) w (u, q)).world
    unfolding deed
    fine_then =
        record {
          single = single_carried u deed.effect w f.single;
          outside = λ v n.
              let d : eqb v u ≡ false = ne_eqb v u (λ r. mem_apart u v who member n (sym r)) in
              seat-find (find v (carry u deed.effect w).facility.places) (find v w.facility.places) (ap (λ (o : Own). o.seat) (own_other v u deed.effect w d)) ∙ f.outside v n;
          enough = rw (places_length u deed.effect w) f.enough;
          table = table_from a u deed.effect w f.table;
        }
