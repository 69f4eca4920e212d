-- What a table that fits is: the header and a raster of the right length.
use Rattle.std.specs.Prelude.{◌≡◌, refl, ◌↔◌, true, ◌&&◌, List, [], ◌∷◌, ◌++◌, ℕ, ◌+◌, T, eqb, length, drop}
use Rattle.std.proofs.Common.{sym, ap, subst, ◌∙◌, arith, eqb→eq, length-append, length-drop}
use Rattle.std.proofs.Math.Dec.{eqb_refl}
use Rattle.systems.specs.Bools.{and_T, and_both}
use Rattle.tables_header.specs.Header.{header, header_bytes, raster_bytes, table_bytes, begins, fits}

-- the bytes that begin with p are p and what follows
begins_forth : (p t : List ℕ) → T (begins p t) → t ≡ p ++ drop (length p) t
unfolding begins
begins_forth [] t h = refl
begins_forth (b ∷ p) [] h = absurd h
begins_forth (b ∷ p) (c ∷ t) h =
    let (e, g) = and_both (eqb c b) (begins p t) h in
    let f : c ≡ b = eqb→eq c b e in
    rw f (ap (λ (x : List ℕ). b ∷ x) (begins_forth p t g))

begins_back : (p t : List ℕ) → T (begins p (p ++ t))
unfolding begins
begins_back [] t = tt
begins_back (b ∷ p) t = and_T (eqb b b) (begins p (p ++ t)) (eqb_refl b) (begins_back p t)

-- a table that fits is the header and a raster of the right length
pub fits_iff : (w h : ℕ) (t : List ℕ) → T (fits w h t) ↔
    ((r : List ℕ) × (length r ≡ raster_bytes w h) × (t ≡ header w h ++ r))
unfolding fits table_bytes header_bytes
fits_iff w h t = (forth, back)
  where
    forth : T (begins (header w h) t && eqb (length t) (length (header w h) + raster_bytes w h))
        → (r : List ℕ) × (length r ≡ raster_bytes w h) × (t ≡ header w h ++ r)
    forth q =
        let (a, b) = and_both (begins (header w h) t) (eqb (length t) (length (header w h) + raster_bytes w h)) q in
        let e : length t ≡ length (header w h) + raster_bytes w h =
        eqb→eq (length t) (length (header w h) + raster_bytes w h) b in
        (drop (length (header w h)) t, length-drop (length (header w h)) t ∙ omega arith, begins_forth (header w h) t a)

    back : (r : List ℕ) × (length r ≡ raster_bytes w h) × (t ≡ header w h ++ r)
        → T (begins (header w h) t && eqb (length t) (length (header w h) + raster_bytes w h))
    back (r, l, e) =
        let n : length t ≡ length (header w h) + raster_bytes w h = ap length e ∙ length-append (header w h) r
        ∙ omega arith in
        and_T (begins (header w h) t) (eqb (length t) (length (header w h) + raster_bytes w h))
        (subst (λ (x : List ℕ). T (begins (header w h) x)) (sym e) (begins_back (header w h) r))
        (subst (λ (x : ℕ). T (eqb x (length (header w h) + raster_bytes w h))) (sym n)
        (eqb_refl (length (header w h) + raster_bytes w h)))

pub fits_length : (w h : ℕ) (t : List ℕ) → fits w h t ≡ true → length t ≡ table_bytes w h
unfolding fits
fits_length w h t e = eqb→eq (length t) (table_bytes w h)
    (and_both (begins (header w h) t) (eqb (length t) (table_bytes w h)) (subst T (sym e) tt)).1
