-- Laws of the argument fields and their sizes. They stood in specs/; the code is proved without them.
use Rattle.std.specs.Prelude.{◌≡◌, Bool, true, false, cond, List, ℕ, suc, ◌+◌, ◌≤◌, ◌<◌, eqb, leb, length, get_or, take, drop}
use Rattle.std.proofs.Common.{ap, arith, add-one, drop_of_length-le, drop-cons, take_all, length-take-le, leb-true, leb-false}
use Rattle.ground.specs.Search.{by_test}
use Rattle.printout.specs.Page.{Page, entered, then}
use Rattle.stream.specs.declared.Request.{Request}
use Rattle.stream.specs.Fields.{Bytes, field}
use Rattle.stream.specs.Grammar.{argument, spelled}
use Rattle.encoder.specs.Written.{one_size}

pub fields_step : (ks : List ℕ) (a : Request) (d : Bytes) (i : ℕ) (p : Page) → i < length ks
    → entered (spelled (drop i ks) a d) p ≡ entered (spelled (drop (i + 1) ks) a d) (entered (field (get_or ks i 0) (argument (get_or ks i 0) a d)) p)
unfolding spelled
fields_step ks a d i p h =
    rw (add-one, drop-cons ks i 0 h) (then (field (get_or ks i 0) (argument (get_or ks i 0) a d)) (spelled (drop (suc i) ks) a d) p)

pub fields_end : (ks : List ℕ) (a : Request) (d : Bytes) (i : ℕ) (p : Page) → length ks ≤ i → entered (spelled (drop i ks) a d) p ≡ p
unfolding spelled entered
fields_end ks a d i p h = rw drop_of_length-le

pub at_most : (m : ℕ) (b : Bool) (x y : ℕ) → x ≤ m → y ≤ m → cond b x y ≤ m
at_most m true x y h k = h
at_most m false x y h k = k

pub size_most : (k n : ℕ) → one_size k n ≤ 11 + n
unfolding one_size
size_most k n =
    at_most (11 + n) (eqb k 0x81) _ _ (omega arith) (
    at_most (11 + n) (eqb k 0x82) _ _ (omega arith) (
    at_most (11 + n) (eqb k 0x83) _ _ (omega arith) (
    at_most (11 + n) (eqb k 0x84) _ _ (omega arith) (
    at_most (11 + n) (eqb k 0x85) _ _ (omega arith) (
    at_most (11 + n) (eqb k 0x86) _ _ (omega arith) (
    at_most (11 + n) (eqb k 0x87) _ _ (omega arith) (omega arith)))))))

pub count_most : (x d : Bytes) → x ≡ take 65536 d → length x ≤ 65536
count_most x d e =
    by_test (leb (length d) 65536)
    (λ t. let h = leb-true (length d) 65536 t in rw (e, take_all 65536 d h) h)
    (λ t. let l = leb-false (length d) 65536 t in omega (arith, ap length e, length-take-le 65536 d (omega arith)))
