-- What the desk's books hold after any answers: `$n` is answer n.
use Rattle.std.specs.Prelude.{◌≡◌, Bool, cond, ◌↔◌, ltb, leb}
use Rattle.std.proofs.Math.Path.{refl, sym, ap, subst}
use Rattle.std.proofs.Common.{◌∙◌, add-one, length-set, take-append-drop, take_all, length-take-le, get_or-set_same, get_or-set_other}
use mathlib.Core.List.{List, [], ◌∷◌, ◌++◌, append-nil, append_assoc}
use Prim.Native.Nat.{ℕ, zero, suc, ◌+◌, ◌-◌, ◌≤◌, ◌<◌}
use native.Mathlib.Omega.{arith}
use Rattle.std.proofs.Math.ListN.{length, get_or, take, drop, length-append}
use Rattle.std.proofs.Math.Seq.{length-sets, take_at, drop_at, get_or-take}
use Rattle.std.proofs.lemmas.List.{take-append-le}
use borrow.Author.Tests.{lt-ltb, le-leb, lt-leb, leb-true, leb-false}
use Rattle.ground.specs.Search.{by_test}
use Rattle.ground.specs.Lists.{take-sets}
use Rattle.printout.specs.Page.{Page}
use Rattle.session.specs.Run.{Answered}
use Rattle.counter.specs.Kept.{Books, next, kept_bytes, end_marked, booked, all_booked}
use Rattle.grammar.specs.Means.{OfAnswer}
use Rattle.sittings.proofs.Pages.{placed}
use Rattle.sittings.specs.Answers.{bytes_of, find_room, one_kept, all_kept, Keeps, Fresh}

-- the answer that so many come before
among : (answers : List Answered) (i : ℕ) → i < length answers → (before : List Answered) × (a : Answered) × (beyond : List Answered) × (answers ≡ before ++ (a ∷ beyond)) × (i ≡ length before)
among [] i h = absurd (omega arith)
among (a ∷ rest) zero h = ([], a, rest, refl, refl)
among (a ∷ rest) (suc i) h =
    let x = among rest i (omega arith) in
    (a ∷ x.0, x.1, x.2, ap (λ (l : List Answered). a ∷ l) x.3, ap suc x.4)

-- ---- what is kept

kept_parts : (room : ℕ) (kept : List ℕ) (xs ys : List Answered) → all_kept room kept (xs ++ ys) ≡ all_kept room (all_kept room kept xs) ys
unfolding all_kept
kept_parts room kept [] ys = refl
kept_parts room kept (a ∷ xs) ys = kept_parts room (one_kept room kept (bytes_of a)) xs ys

-- what is kept stays where it is
kept_stays : (room : ℕ) (kept : List ℕ) (xs : List Answered) → (more : List ℕ) × (all_kept room kept xs ≡ kept ++ more)
unfolding all_kept one_kept
kept_stays room kept [] = ([], sym (append-nil kept))
kept_stays room kept (a ∷ xs) =
    by_test (find_room room kept (bytes_of a))
    (λ e.
    let r = kept_stays room (kept ++ bytes_of a) xs in
    (bytes_of a ++ r.0, ap (λ (t : Bool). all_kept room (cond t (kept ++ bytes_of a) kept) xs) e ∙ r.1 ∙ append_assoc kept (bytes_of a) r.0))
    (λ e. let r = kept_stays room kept xs in (r.0, ap (λ (t : Bool). all_kept room (cond t (kept ++ bytes_of a) kept) xs) e ∙ r.1))

-- ---- a page that holds it

record Holds (room : ℕ) (kept : List ℕ) (p : Page) : Type 0 where
  pub size : length p.letters ≡ room
  pub filled : p.filled ≡ length kept
  pub within : length kept ≤ room
  pub there : take p.filled p.letters ≡ kept

holds_one : (room : ℕ) (kept : List ℕ) (p : Page) (xs : List ℕ) → Holds room kept p → Holds room (one_kept room kept xs) (kept_bytes xs p)
unfolding one_kept kept_bytes
holds_one room kept p xs h =
    by_test (find_room room kept xs)
    (λ e.
    let fits : p.filled + length xs ≤ length p.letters = omega (arith, leb-true (length kept + length xs) room e, h.size, h.filled) in
    rw (e, le-leb (p.filled + length xs) (length p.letters) fits, placed xs p.letters p.filled fits)
    (record {
      size = length-sets p.letters p.filled xs ∙ h.size;
      filled = omega (arith, h.filled, length-append kept xs);
      within = omega (arith, leb-true (length kept + length xs) room e, length-append kept xs);
      there = take-sets p.letters xs p.filled fits ∙ ap (λ (l : List ℕ). l ++ xs) h.there;
    }))
    (λ e.
    let full : length p.letters < p.filled + length xs = omega (arith, leb-false (length kept + length xs) room e, h.size, h.filled) in
    rw (e, lt-leb (p.filled + length xs) (length p.letters) full) h)

-- ---- the marks

next_one : (n : ℕ) → n < 0xFFFFFFFFFFFFFFFF → next n ≡ suc n
unfolding next
next_one n h = rw (lt-ltb n 0xFFFFFFFFFFFFFFFF h, add-one)

next_least : (n : ℕ) → n ≤ next n
unfolding next
next_least n = by_test (ltb n 0xFFFFFFFFFFFFFFFF) (λ e. rw e (omega arith)) (λ e. rw e (omega arith))

marks_length : (ends : List ℕ) (n to : ℕ) → length (end_marked ends n to) ≡ length ends
unfolding end_marked
marks_length ends n to = by_test (ltb n (length ends)) (λ e. rw e (length-set ends n to)) (λ e. rw e)

own_mark : (ends : List ℕ) (n to : ℕ) → n < length ends → get_or (end_marked ends n to) n 0 ≡ to
unfolding end_marked
own_mark ends n to h = rw (lt-ltb n (length ends) h) (get_or-set_same ends n to 0 h)

other_mark : (ends : List ℕ) (n to i : ℕ) → (i ≡ n → ⊥) → get_or (end_marked ends n to) i 0 ≡ get_or ends i 0
unfolding end_marked
other_mark ends n to i h = by_test (ltb n (length ends)) (λ e. rw e (get_or-set_other ends n i to 0 h)) (λ e. rw e)

-- ---- the books after the answers so far

module _ (first room : ℕ) (counted : first < 0xFFFFFFFFFFFFFFFF) where
  record After (done : List Answered) (b : Books) : Type 0 where
    pub page : Holds room (all_kept room [] done) b.bytes
    pub marks : length b.ends ≡ suc first
    pub exact : length done ≤ first → b.count ≡ length done
    pub past : first < length done → first < b.count
    pub ends : (i : ℕ) → i ≤ length done → i ≤ first → get_or b.ends i 0 ≡ length (all_kept room [] (take i done))

  fresh-after : (b : Books) → Fresh first room b → After [] b
  unfolding all_kept
  fresh-after b h =
      record {
        page = record { size = h.size; filled = h.empty; within = omega arith; there = ap (λ (n : ℕ). take n b.bytes.letters) h.empty };
        marks = h.marks;
        exact = λ l. h.none;
        past = λ l. absurd (omega arith);
        ends = λ i l k. let z : i ≡ 0 = omega arith in rw (z, h.start);
      }

  -- one answer more
  module _ (done : List Answered) (b : Books) (a : Answered) (h : After done b) where
    abbrev more : List Answered
    more = done ++ (a ∷ [])

    more-length : length more ≡ suc (length done)
    more-length = length-append done (a ∷ []) ∙ omega arith

    kept_more : all_kept room [] more ≡ one_kept room (all_kept room [] done) (bytes_of a)
    unfolding all_kept
    kept_more = kept_parts room [] done (a ∷ [])

    page-more : Holds room (all_kept room [] more) (kept_bytes (bytes_of a) b.bytes)
    page-more = subst (λ (k : List ℕ). Holds room k (kept_bytes (bytes_of a) b.bytes)) (sym kept_more) (holds_one room (all_kept room [] done) b.bytes (bytes_of a) h.page)

    next_is : length done ≤ first → next b.count ≡ suc (length done)
    next_is l = ap next (h.exact l) ∙ next_one (length done) (omega arith)

    next_past : first < length done → first < next b.count
    next_past l = omega (arith, h.past l, next_least b.count)

    not_marked : (i : ℕ) → i ≤ length done → i ≤ first → i ≡ next b.count → ⊥
    not_marked i l k e =
        by_test (leb (length done) first)
        (λ t. omega (arith, next_is (leb-true (length done) first t)))
        (λ t. omega (arith, next_past (leb-false (length done) first t)))

    abbrev ends_then : List ℕ
    ends_then = end_marked b.ends (next b.count) (kept_bytes (bytes_of a) b.bytes).filled

    ends_more : (i : ℕ) → i ≤ length more → i ≤ first → get_or ends_then i 0 ≡ length (all_kept room [] (take i more))
    ends_more i l k =
        by_test (leb i (length done))
        (λ t.
        let m = leb-true i (length done) t in
        other_mark b.ends (next b.count) _ i (not_marked i m k)
        ∙ h.ends i m k
        ∙ ap (λ (x : List Answered). length (all_kept room [] x)) (sym (take-append-le i done (a ∷ []) m)))
        (λ t.
        let m = leb-false i (length done) t in
        let is : i ≡ next b.count = omega (arith, next_is (omega arith), more-length) in
        ap (λ (j : ℕ). get_or ends_then j 0) is
        ∙ own_mark b.ends (next b.count) _ (omega (arith, h.marks))
        ∙ page-more.filled
        ∙ ap (λ (x : List Answered). length (all_kept room [] x)) (sym (take_all i more (omega (arith, more-length)))))

    after_more : After more (booked a b)
    unfolding booked
    after_more =
        record {
          page = page-more;
          marks = marks_length b.ends (next b.count) _ ∙ h.marks;
          exact = λ l. next_is (omega (arith, more-length)) ∙ sym more-length;
          past = λ l. past_more l;
          ends = ends_more;
        }
      where
        past_more : first < length more → first < next b.count
        past_more l =
            by_test (leb (length done) first)
            (λ t. omega (arith, l, more-length, next_is (leb-true (length done) first t)))
            (λ t. next_past (leb-false (length done) first t))

  after_all : (answers done : List Answered) (b : Books) → After done b → After (done ++ answers) (all_booked answers b)
  unfolding all_booked
  after_all [] done b h = subst (λ (l : List Answered). After l b) (sym (append-nil done)) h
  after_all (a ∷ rest) done b h =
      subst (λ (l : List Answered). After l (all_booked rest (booked a b))) (append_assoc done (a ∷ []) rest)
      (after_all rest (done ++ (a ∷ [])) (booked a b) (after_more done b a h))

  -- ---- `$n` among them

  -- where an answer was given among them
  module _ (before : List Answered) (a : Answered) (beyond : List Answered) (b : Books) (h : After (before ++ (a ∷ beyond)) b) where
    abbrev done : List Answered
    done = before ++ (a ∷ beyond)

    abbrev kept : List ℕ
    kept = all_kept room [] before

    done-length : length done ≡ suc (length before + length beyond)
    done-length = length-append before (a ∷ beyond) ∙ omega arith

    mark_before : length before ≤ first → get_or b.ends (length before) 0 ≡ length kept
    mark_before l = h.ends (length before) (omega (arith, done-length)) l ∙ ap (λ (x : List Answered). length (all_kept room [] x)) (take_at before (a ∷ beyond) (length before) refl)

    up_to_it : take (suc (length before)) done ≡ before ++ (a ∷ [])
    up_to_it =
        ap (take (suc (length before))) (sym (append_assoc before (a ∷ []) beyond))
        ∙ take_at (before ++ (a ∷ [])) beyond (suc (length before)) (length-append before (a ∷ []) ∙ omega arith)

    mark_after : suc (length before) ≤ first → get_or b.ends (suc (length before)) 0 ≡ length (one_kept room kept (bytes_of a))
    unfolding all_kept
    mark_after l =
        h.ends (suc (length before)) (omega (arith, done-length)) l
        ∙ ap (λ (x : List Answered). length (all_kept room [] x)) up_to_it
        ∙ ap length (kept_parts room [] before (a ∷ []))

    -- its bytes stand behind those kept before it
    stand : length kept + length (bytes_of a) ≤ room → (rest : List ℕ) × (b.bytes.letters ≡ kept ++ (bytes_of a ++ rest))
    unfolding all_kept one_kept
    stand fits =
        let r = kept_stays room (kept ++ bytes_of a) beyond in
        let p = b.bytes in
        let all : all_kept room [] done ≡ (kept ++ bytes_of a) ++ r.0 =
        kept_parts room [] before (a ∷ beyond)
        ∙ ap (λ (t : Bool). all_kept room (cond t (kept ++ bytes_of a) kept) beyond) (le-leb (length kept + length (bytes_of a)) room fits)
        ∙ r.1 in (
          r.0 ++ drop p.filled p.letters,
          sym (take-append-drop p.filled p.letters)
              ∙ ap (λ (l : List ℕ). l ++ drop p.filled p.letters) (h.page.there ∙ all)
              ∙ append_assoc (kept ++ bytes_of a) r.0 (drop p.filled p.letters)
              ∙ append_assoc kept (bytes_of a) (r.0 ++ drop p.filled p.letters),
        )

  -- ---- `$n` is answer n

  module _ (answers : List Answered) (b : Books) (h : After answers b) (n : ℕ) (bytes : List ℕ) where
    abbrev letters : List ℕ
    letters = b.bytes.letters

    -- the marks of the answers given
    abbrev ends : List ℕ
    ends = take (b.count + 1) b.ends

    -- answer n was given, and has a mark
    given : n ≤ length answers → n ≤ first → n < length ends
    given l k =
        by_test (leb (b.count + 1) (length b.ends))
        (λ t. omega (arith, counts, length-take-le (b.count + 1) b.ends (leb-true (b.count + 1) (length b.ends) t)))
        (λ t. let x = leb-false (b.count + 1) (length b.ends) t in omega (arith, h.marks, ap length (take_all (b.count + 1) b.ends (omega arith))))
      where
        counts : n ≤ b.count
        counts =
            by_test (leb (length answers) first)
            (λ t. omega (arith, h.exact (leb-true (length answers) first t)))
            (λ t. omega (arith, h.past (leb-false (length answers) first t)))

    was_given : n < length ends → (n ≤ first) × (n ≤ b.count) × (n ≤ length answers)
    was_given l =
        let x : (n ≤ first) × (n ≤ b.count) =
        by_test (leb (b.count + 1) (length b.ends))
        (λ t. let y = leb-true (b.count + 1) (length b.ends) t in let z = length-take-le (b.count + 1) b.ends y in (omega (arith, h.marks), omega arith))
        (λ t. let y = leb-false (b.count + 1) (length b.ends) t in let z = ap length (take_all (b.count + 1) b.ends (omega arith)) in (omega (arith, h.marks), omega arith)) in
        (x.0, x.1, by_test (leb (length answers) first) (λ t. omega (arith, x.1, h.exact (leb-true (length answers) first t))) (λ t. omega (arith, x.0, leb-false (length answers) first t)))

    keeps_of : Keeps first room answers n bytes → OfAnswer letters ends n bytes
    unfolding one_kept
    keeps_of k =
        let there = subst (λ (l : List Answered). After l b) k.whole h in
        let size = done-length k.before k.answer k.beyond b there in
        let l : n ≤ b.count = (was_given (given (omega (arith, k.ordinal, size, ap length k.whole)) k.early)).1 in
        let kept = all_kept room [] k.before in
        let fits : length kept + length (bytes_of k.answer) ≤ room = omega (arith, k.found, ap length k.bytes) in
        let s = stand k.before k.answer k.beyond b there fits in
        let o : n - 1 ≡ length k.before = omega (arith, k.ordinal) in
        record {
          given = (omega (arith, k.ordinal), given (omega (arith, k.ordinal, size, ap length k.whole)) k.early);
          before = kept;
          beyond = s.0;
          whole = s.1 ∙ ap (λ (x : List ℕ). kept ++ (x ++ s.0)) (sym k.bytes);
          from = sym (get_or-take (b.count + 1) b.ends (n - 1) 0 (omega arith) ∙ ap (λ (j : ℕ). get_or b.ends j 0) o ∙ mark_before k.before k.answer k.beyond b there (omega (arith, k.ordinal, k.early)));
          to = sym (get_or-take (b.count + 1) b.ends n 0 (omega arith)
              ∙ ap (λ (j : ℕ). get_or b.ends j 0) k.ordinal
              ∙ mark_after k.before k.answer k.beyond b there (omega (arith, k.ordinal, k.early))
              ∙ ap (λ (t : Bool). length (cond t (kept ++ bytes_of k.answer) kept)) (le-leb (length kept + length (bytes_of k.answer)) room fits)
              ∙ length-append kept (bytes_of k.answer)
              ∙ ap (λ (x : List ℕ). length kept + length x) (sym k.bytes));
          some = k.some;
        }

    of_keeps : OfAnswer letters ends n bytes → Keeps first room answers n bytes
    unfolding one_kept
    of_keeps o =
        let g = was_given o.given.1 in
        let x = among answers (n - 1) (omega (arith, g.2, o.given.0)) in
        let before = x.0 in
        let a = x.1 in
        let there = subst (λ (l : List Answered). After l b) x.3 h in
        let kept = all_kept room [] before in
        let ordinal : n ≡ suc (length before) = omega (arith, x.4, o.given.0) in
        let early : n ≤ first = g.0 in
        let from : length o.before ≡ length kept =
        o.from ∙ get_or-take (b.count + 1) b.ends (n - 1) 0 (omega (arith, g.1)) ∙ ap (λ (j : ℕ). get_or b.ends j 0) x.4 ∙ mark_before before a x.2 b there (omega (arith, ordinal, early)) in
        let to : length o.before + length bytes ≡ length (one_kept room kept (bytes_of a)) =
        o.to ∙ get_or-take (b.count + 1) b.ends n 0 (omega (arith, g.1)) ∙ ap (λ (j : ℕ). get_or b.ends j 0) ordinal ∙ mark_after before a x.2 b there (omega (arith, ordinal, early)) in
        by_test (find_room room kept (bytes_of a))
        (λ t.
        let fits = leb-true (length kept + length (bytes_of a)) room t in
        let s = stand before a x.2 b there fits in
        let size : length bytes ≡ length (bytes_of a) = omega (arith, from, to ∙ ap (λ (u : Bool). length (cond u (kept ++ bytes_of a) kept)) t, length-append kept (bytes_of a)) in
        let rests : bytes ++ o.beyond ≡ bytes_of a ++ s.0 =
        sym (drop_at o.before (bytes ++ o.beyond) (length kept) from) ∙ ap (drop (length kept)) (sym o.whole ∙ s.1) ∙ drop_at kept (bytes_of a ++ s.0) (length kept) refl in
        let same : bytes ≡ bytes_of a = sym (take_at bytes o.beyond (length bytes) refl) ∙ ap (take (length bytes)) rests ∙ take_at (bytes_of a) s.0 (length bytes) (sym size) in
        record { before = before; answer = a; beyond = x.2; whole = x.3; ordinal = ordinal; early = early; bytes = same; some = o.some; found = omega (arith, fits, size) })
        (λ t. absurd (omega (arith, o.some, from, to ∙ ap (λ (u : Bool). length (cond u (kept ++ bytes_of a) kept)) t)))

-- from fresh books, after any answers: what stands for `$n` is the bytes of answer n, and stands there exactly if they are kept
pub answer_of : (first room : ℕ) → first < 0xFFFFFFFFFFFFFFFF → (fresh : Books) → Fresh first room fresh → (answers : List Answered) (n : ℕ) (bytes : List ℕ)
    → let b = all_booked answers fresh in OfAnswer b.bytes.letters (take (b.count + 1) b.ends) n bytes ↔ Keeps first room answers n bytes
answer_of first room counted fresh f answers n bytes =
    let h = after_all first room counted answers [] fresh (fresh-after first room counted fresh f) in
    (of_keeps first room counted answers (all_booked answers fresh) h n bytes, keeps_of first room counted answers (all_booked answers fresh) h n bytes)

-- "of the first 4096 answers, while they find room in 1048576 bytes"
pub answer_at_the_desk : (fresh : Books) → Fresh 4096 1048576 fresh → (answers : List Answered) (n : ℕ) (bytes : List ℕ)
    → let b = all_booked answers fresh in OfAnswer b.bytes.letters (take (b.count + 1) b.ends) n bytes ↔ Keeps 4096 1048576 answers n bytes
answer_at_the_desk = answer_of 4096 1048576 (omega arith)
