-- Two names pass the test of spelling exactly where their bytes are equal.
use Rattle.std.specs.Prelude.{◌≡◌, refl, Bool, true, List, [], ◌∷◌, ℕ, zero, suc, ◌≤◌, eqb, length, take, drop, get_or}
use Rattle.std.proofs.Common.{sym, ap, ◌∙◌, arith, length-take, length-drop, eqb-true, eq-eqb}
use Rattle.reader_tokens.specs.Scan as scan
use Rattle.reader_record.specs.declared.Name.{Name}
use Rattle.reader_formed.specs.Promise.{Within}
use Rattle.reader_formed.proofs.Cases.{split, never}
use Rattle.reader_formed.proofs.Declared.{same_length}
use Rattle.pairing.specs.Channels.{spelling, alike}

agree_take : (m : ℕ) (x y : List ℕ) → scan.agree m x y ≡ true → take m x ≡ take m y
unfolding scan.agree
agree_take zero x y = λ h. refl
agree_take (suc m) [] y = λ h. never (sym h)
agree_take (suc m) (a ∷ x) [] = λ h. never (sym h)
agree_take (suc m) (a ∷ x) (b ∷ y) =
    split (λ (t : Bool). t ≡ true → a ∷ take m x ≡ b ∷ take m y) (eqb a b)
    (λ e h. rw (eqb-true a b e, agree_take m x y h))
    (λ _ h. never (sym h))

take_agree : (m : ℕ) (x y : List ℕ) → m ≤ length x → m ≤ length y → take m x ≡ take m y → scan.agree m x y ≡ true
unfolding scan.agree
take_agree zero x y k l e = refl
take_agree (suc m) [] y k l e = absurd (omega arith)
take_agree (suc m) (a ∷ x) [] k l e = absurd (omega arith)
take_agree (suc m) (a ∷ x) (b ∷ y) k l e =
    let head : a ≡ b = ap (λ (z : List ℕ). get_or z 0 0) e in
    let tail : take m x ≡ take m y = ap (λ (z : List ℕ). drop 1 z) e in
    rw (eq-eqb a b head, take_agree m x y (omega arith) (omega arith) tail)

pub alike_spelled :
    (s : List ℕ) (m : Name) (u : List ℕ) (n : Name) → alike s m u n ≡ true → spelling s m ≡ spelling u n
unfolding alike scan.same
alike_spelled s m u n h =
    let e = same_length m.len (drop m.place s) n.len (drop n.place u) h in
    ap (λ (k : ℕ). take k (drop m.place s)) e
    ∙ agree_take n.len (drop m.place s) (drop n.place u) (rw (e, eq-eqb n.len n.len refl) at h)

-- a name within the text has as many bytes as it says
spelled_length : (s : List ℕ) (n : Name) → Within s n → length (spelling s n) ≡ n.len
spelled_length s n w =
    length-take n.len (drop n.place s) ∙ omega (arith, length-drop n.place s, w.inside)

pub spelled_alike :
    (s : List ℕ) (m : Name) (u : List ℕ) (n : Name) → Within s m → Within u n → spelling s m ≡ spelling u n
    → alike s m u n ≡ true
unfolding alike scan.same
spelled_alike s m u n v w e =
    let k : m.len ≡ n.len = sym (spelled_length s m v) ∙ ap length e ∙ spelled_length u n w in
    rw (eq-eqb m.len n.len k)
    (take_agree m.len (drop m.place s) (drop n.place u)
    (omega (arith, length-drop m.place s, v.inside))
    (omega (arith, length-drop n.place u, w.inside))
    (e ∙ ap (λ (i : ℕ). take i (drop n.place u)) (sym k)))
