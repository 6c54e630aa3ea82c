-- Demand 3 holds of any way to carry out what a user asks for that sees and alters his own alone; and so of `step`, the definition that the commands' contracts cite.
use Rattle.std.specs.Prelude.{◌≡◌, true, false, ℕ, ◌≤◌, eqb, length}
use Rattle.std.proofs.Math.Path.{refl, ap}
use Rattle.std.proofs.Common.{sym, ap₂, ◌∙◌, true≢false, eqb-true, eq-eqb}
use mathlib.Core.List.{List, [], ◌∷◌, ◌++◌, cons≢nil}
use Rattle.ground.specs.Search.{by_test}
use Rattle.state.specs.State.{Bytes, holders}
use Rattle.rules.specs.World.{World, Own, own}
use Rattle.rules.specs.Step.{Told, step}
use Rattle.properties.specs.Single.{Single}
use Rattle.merging.specs.Ids.{mem, Distinct, once, different}
use Rattle.merging.proofs.Ids.{mem-left, mem_right, mem-once}
use Rattle.merging.specs.Demand3.{Request, Lists, Run, users, list_of, alone, Merge, serve, after, gets, holds, Undisturbed}
use Rattle.merging.proofs.Places.{find_none}
use Rattle.merging.proofs.Tables.{from_self, from_ext}
use Rattle.merging.specs.OneCommand.{Way, carried_by, Fine}
use Rattle.merging.proofs.OneCommand.{does, then, seat-find, answer, own_then, own_stays, fine_then}
use Rattle.merging.proofs.Merges.{of, merge_picked, no_list}
use Rattle.merging.specs.Theorem.{by_rule, commanded}

module _ {C : Type 0} (way : Way C) where
  -- ---- u's requests one after another, by what u's commands see, where the facility is open to him

  tells : ℕ → Own → List (Request C) → List Told
  tells u o [] = []
  tells u o (q ∷ qs) = (does way u o q).told ∷ tells u (then way u o q) qs

  sees : ℕ → Own → List (Request C) → Own
  sees u o [] = o
  sees u o (q ∷ qs) = sees u (then way u o q) qs

  -- ---- runs of the users `who`

  abbrev Among : List ℕ → Run C → Type 0
  Among who [] = Unit {0}
  Among who (x ∷ m) = (mem x.0 who ≡ true) × Among who m

  among : (who : List ℕ) (m : Run C) → ((v : ℕ) → mem v who ≡ false → of v m ≡ []) → Among who m
  among who [] h = tt
  among who (x ∷ m) h = (
    by_test (mem x.0 who) (λ e. e) (λ e. absurd (cons≢nil (rw (eq-eqb x.0 x.0 refl) at (h x.0 e)))),
    among who m λ v n. by_test (eqb v x.0) (λ e. absurd (cons≢nil (rw e at (h v n)))) (λ e. rw e at (h v n)),
  )

  module _ (who : List ℕ) (a : Bytes) where
    fine_after : (m : Run C) (w : World) → Fine who a w → Among who m → Fine who a (after (carried_by way) w m)
    fine_after [] w f n = f
    fine_after (x ∷ m) w f n = fine_after m (serve (carried_by way) w x).world (fine_then way who a w f x.0 n.0 x.1) n.1

    -- what u gets, and what his commands see in the end, comes of his own part of the run
    gets-own : (m : Run C) (w : World) → Fine who a w → Among who m → (u : ℕ) → gets (carried_by way) w m u ≡ tells u (own u w) (of u m)
    unfolding tells
    gets-own [] w f n u = refl
    gets-own (x ∷ m) w f n u =
        let ih = gets-own m (serve (carried_by way) w x).world (fine_then way who a w f x.0 n.0 x.1) n.1 u in
        by_test (eqb u x.0)
        (λ e.
        let did : (serve (carried_by way) w x).answered ≡ (does way u (own u w) x.1).told = rw (eqb-true u x.0 e) (answer way who a w f x.0 n.0 x.1) in
        let now : own u (serve (carried_by way) w x).world ≡ then way u (own u w) x.1 = rw (eqb-true u x.0 e) (own_then way who a w f x.0 n.0 x.1) in
        rw e (ap₂ {C = List Told} (λ h t. h ∷ t) did (ih ∙ ap (λ (o : Own). tells u o (of u m)) now)))
        (λ e. rw e (ih ∙ ap (λ (o : Own). tells u o (of u m)) (own_stays way who a w f x.0 n.0 x.1 u e)))

    sees_own : (m : Run C) (w : World) → Fine who a w → Among who m → (u : ℕ) → own u (after (carried_by way) w m) ≡ sees u (own u w) (of u m)
    unfolding sees
    sees_own [] w f n u = refl
    sees_own (x ∷ m) w f n u =
        let ih = sees_own m (serve (carried_by way) w x).world (fine_then way who a w f x.0 n.0 x.1) n.1 u in
        by_test (eqb u x.0)
        (λ e.
        let now : own u (serve (carried_by way) w x).world ≡ then way u (own u w) x.1 = rw (eqb-true u x.0 e) (own_then way who a w f x.0 n.0 x.1) in
        rw e (ih ∙ ap (λ (o : Own). sees u o (of u m)) now))
        (λ e. rw e (ih ∙ ap (λ (o : Own). sees u o (of u m)) (own_stays way who a w f x.0 n.0 x.1 u e)))

  -- ---- merges

  of-alone : (u : ℕ) (qs : List (Request C)) → of u (alone u qs) ≡ qs
  of-alone u [] = refl
  of-alone u (q ∷ qs) = rw (eq-eqb u u refl, of-alone u qs)

  of-alone_other : (v u : ℕ) (qs : List (Request C)) → eqb v u ≡ false → of v (alone u qs) ≡ []
  of-alone_other v u [] d = refl
  of-alone_other v u (q ∷ qs) d = rw d (of-alone_other v u qs d)

  module _
      (w : World)
      (sixteen : length w.facility.places ≡ 16)
      (single : Single w.facility.places)
      (lists : Lists C)
      (one : Distinct (users lists))
      (few : different (users lists ++ holders w.facility.places) ≤ 16)
    where
      together : List ℕ
      together = users lists ++ holders w.facility.places

      who : List ℕ
      who = once together

      start : Fine who w.table w
      unfolding who together
      start =
          record {
            single = single;
            outside = λ v n. find_none v w.facility.places
                (by_test (mem v (holders w.facility.places)) (λ e. absurd (true≢false (sym (mem-once v together (mem_right v (users lists) (holders w.facility.places) e)) ∙ n))) (λ e. e));
            enough = rw sixteen few;
            table = from_self w.table;
          }

      outside : (v : ℕ) → mem v who ≡ false → list_of v lists ≡ []
      unfolding who together
      outside v n =
          no_list lists v
          (by_test (mem v (users lists)) (λ e. absurd (true≢false (sym (mem-once v together (mem-left v (users lists) (holders w.facility.places) e)) ∙ n))) (λ e. e))

      in_merge : (m : Run C) → Merge C lists m → Among who m
      in_merge m g = among who m λ v n. merge_picked one g v ∙ outside v n

      in_alone : (u : ℕ) → Among who (alone u (list_of u lists))
      in_alone u =
          among who (alone u (list_of u lists)) λ v n. by_test (eqb v u)
          (λ e. rw (eqb-true v u e) (of-alone u (list_of u lists) ∙ outside u (rw (eqb-true v u e) at n)))
          (λ e. of-alone_other v u (list_of u lists) e)

      gets-alone : (m : Run C) → Merge C lists m → (u : ℕ) → gets (carried_by way) w m u ≡ gets (carried_by way) w (alone u (list_of u lists)) u
      gets-alone m g u =
          gets-own who w.table m w start (in_merge m g) u
          ∙ ap (tells u (own u w)) (merge_picked one g u ∙ sym (of-alone u (list_of u lists)))
          ∙ sym (gets-own who w.table (alone u (list_of u lists)) w start (in_alone u) u)

      -- all that u's commands see, the keys and the mark among it
      own_alike : (m m' : Run C) → Merge C lists m → Merge C lists m' → (u : ℕ) → own u (after (carried_by way) w m) ≡ own u (after (carried_by way) w m')
      own_alike m m' g g' u =
          sees_own who w.table m w start (in_merge m g) u
          ∙ ap (sees u (own u w)) (merge_picked one g u ∙ sym (merge_picked one g' u))
          ∙ sym (sees_own who w.table m' w start (in_merge m' g') u)

      table_alike : (m m' : Run C) → Merge C lists m → Merge C lists m' → (after (carried_by way) w m).table ≡ (after (carried_by way) w m').table
      table_alike m m' g g' =
          from_ext w.table (after (carried_by way) w m).table (after (carried_by way) w m').table
          (fine_after who w.table m w start (in_merge m g)).table (fine_after who w.table m' w start (in_merge m' g')).table
          λ v. ap (λ (o : Own). o.entry) (own_alike m m' g g' v)

      holds_alike : (m m' : Run C) → Merge C lists m → Merge C lists m' → (u : ℕ) → holds (after (carried_by way) w m) u ≡ holds (after (carried_by way) w m') u
      holds_alike m m' g g' u = seat-find (holds (after (carried_by way) w m) u) (holds (after (carried_by way) w m') u) (ap (λ (o : Own). o.seat) (own_alike m m' g g' u))

  pub any_way : Undisturbed (carried_by way)
  any_way w sixteen single lists one few m g = (
    gets-alone w sixteen single lists one few m g,
    λ m' g'. (table_alike w sixteen single lists one few m m' g g', holds_alike w sixteen single lists one few m m' g g'),
  )

pub demand_3 : Undisturbed commanded
unfolding step
demand_3 = any_way by_rule
