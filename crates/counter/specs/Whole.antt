-- A line, letter by letter: with one letter more it is the longer line, and with the line feed it is complete.
use Rattle.std.specs.Prelude.{◌≡◌, refl, Bool, true, false, cond, List, [], ◌∷◌, ◌++◌, ℕ, suc, ◌+◌, ◌≤◌, ◌<◌, eqb, ltb, length, take, set}
use Rattle.std.proofs.Common.{sym, ap, ◌∙◌, arith, length-set, length-append, lt-ltb, le-ltb, ltb-true, ltb-false}
use Prim.Native.Char.{code}
use Rattle.ground.specs.Search.{by_test}
use Rattle.printout.specs.Page.{Page, page, letter, entered, then}
use Rattle.clerk.specs.Filled.{put-over}
use Rattle.counter.specs.declared.input.Coming.{Coming}
use Rattle.counter.specs.Holds.{partly}
use Rattle.counter.specs.Input.{Partly, has_room, one_more, no_feed, line_in}

-- whether a buffer has room after a text
room_after : (l b : List ℕ) (m : ℕ) → has_room (entered l (page b m)) ≡ ltb (m + length l) (length b)
unfolding entered letter
room_after [] b m = let e : m ≡ m + 0 = omega arith in ap (λ (k : ℕ). ltb k (length b)) e
room_after (x ∷ l) b m =
    by_test (ltb m (length b))
    (λ t.
    let k : m + 1 + length l ≡ m + suc (length l) = omega arith in
    ap after t ∙ room_after l (set b m x) (m + 1) ∙ ap (ltb (m + 1 + length l)) (length-set b m x) ∙ ap (λ (n : ℕ). ltb n (length b)) k)
    (λ t.
    let k : length b ≤ m = ltb-false m (length b) t in
    ap after t ∙ room_after l b m ∙ le-ltb (m + length l) (length b) (omega (arith, k)) ∙ sym (le-ltb (m + suc (length l)) (length b) (omega (arith, k))))
  where
    -- by whether there is room for x
    after : Bool → Bool
    after room = has_room (entered l (cond room (page (set b m x) (m + 1)) (page b m)))

-- whether a line of n letters, with one letter more, is longer than the room
one_longer : (n room : ℕ) → cond (ltb n room) (ltb room n) true ≡ ltb room (n + 1)
one_longer n room =
    by_test (ltb n room)
    (λ t.
    let k : n < room = ltb-true n room t in
    ap (λ (f : Bool). cond f (ltb room n) true) t ∙ le-ltb room n (omega (arith, k)) ∙ sym (le-ltb room (n + 1) (omega (arith, k))))
    (λ t.
    let k : room ≤ n = ltb-false n room t in
    ap (λ (f : Bool). cond f (ltb room n) true) t ∙ sym (lt-ltb room (n + 1) (omega (arith, k))))

no_feed_lem : (l : List ℕ) (x : ℕ) → no_feed l ≡ true → eqb x (code "\n") ≡ false → no_feed (l ++ (x ∷ [])) ≡ true
unfolding no_feed
no_feed_lem [] x h e = ap (λ (t : Bool). cond t false true) e
no_feed_lem (y ∷ l) x h e =
    by_test (eqb y (code "\n"))
    (λ t. ap (before (l ++ (x ∷ []))) t ∙ sym (ap (before l) t) ∙ h)
    (λ t. ap (before (l ++ (x ∷ []))) t ∙ no_feed_lem l x (sym (ap (before l) t) ∙ h) e)
  where
    -- by whether the letter before them is the line feed
    before : List ℕ → Bool → Bool
    before rest feed = cond feed false (no_feed rest)

-- some line, in a buffer as far as it has come
abbrev pub SomeLine : List ℕ → Partly → Type 0
SomeLine buffer p = (l : List ℕ) × (no_feed l ≡ true) × (p ≡ line_in buffer p.complete l)

pub none_yet : (buffer : List ℕ) → SomeLine buffer (record { letters = page buffer 0; longer = false; complete = false })
unfolding no_feed entered
none_yet buffer = ([], refl, rw (le-ltb (length buffer) 0 (omega arith)))

pub one_more_lem : (buffer : List ℕ) (p : Partly) → SomeLine buffer p → (x : ℕ) (q : Partly) → q ≡ one_more x p → SomeLine buffer q
unfolding one_more entered
one_more_lem buffer p (l, f, e) x q g =
    by_test (eqb x (code "\n"))
    (λ t. (l, f, told l true (g ∙ ap (came p) t ∙ ap (λ (r : Partly). came r true) e)))
    (λ t. (l ++ (x ∷ []), no_feed_lem l x f t, told (l ++ (x ∷ [])) false (g ∙ ap (came p) t ∙ ap (λ (r : Partly). came r false) e ∙ longer)))
  where
    -- by whether x is the line feed
    came : Partly → Bool → Partly
    came r feed =
        cond feed
        (record { letters = r.letters; longer = r.longer; complete = true })
        (record { letters = letter x r.letters; longer = cond (has_room r.letters) r.longer true; complete = false })

    told : (k : List ℕ) (t : Bool) → q ≡ line_in buffer t k → q ≡ line_in buffer q.complete k
    told k t h = h ∙ ap (λ (c : Bool). line_in buffer c k) (sym (ap (λ (r : Partly). r.complete) h))

    started : Page
    started = entered l (page buffer 0)

    at_end : 0 + length l ≡ length l
    at_end = omega arith

    longer : came (line_in buffer p.complete l) false ≡ line_in buffer false (l ++ (x ∷ []))
    longer =
        ap (λ (room : Bool). record { letters = letter x started; longer = cond room (ltb (length buffer) (length l)) true; complete = false })
        (room_after l buffer 0 ∙ ap (λ (n : ℕ). ltb n (length buffer)) at_end)
        ∙ ap (λ (t : Bool). record { letters = letter x started; longer = t; complete = false })
        (one_longer (length l) (length buffer) ∙ ap (ltb (length buffer)) (sym (length-append l (x ∷ []))))
        ∙ ap (λ (r : Page). record { letters = r; longer = ltb (length buffer) (length (l ++ (x ∷ []))); complete = false }) (sym (then l (x ∷ []) (page buffer 0)))

-- what stands in the buffer then, for the line to be heard: as many letters as found room, and whether there are more
pub letters_there : (buffer l : List ℕ) (got : Coming) → partly got ≡ line_in buffer got.complete l
    → (take got.letters.filled got.letters.letters.now ≡ take (length buffer) l) × (got.longer ≡ ltb (length buffer) (length l))
letters_there buffer l got e =
    (put-over buffer l got.letters.letters.now got.letters.filled (ap (λ (p : Partly). p.letters) e), ap (λ (p : Partly). p.longer) e)
