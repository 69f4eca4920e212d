-- Two of the seven texts together: their systems as the operations
-- compute on them, and the runs, tables and checks computed.
use Rattle.std.specs.Prelude.{◌≡◌, refl, List, [], ◌∷◌, ℕ, Ok}
use Rattle.systems.specs.Definitions.{tick, Input}
use Rattle.systems.specs.Finite.{FiniteSystem, search_run}
use Rattle.systems.specs.Renumbered.{renumbered}
use Rattle.systems.proofs.Compute.{search_by}
use Rattle.reader_record.specs.declared.Text.{Text}
use Rattle.reader_examples.specs.Texts.{post, rearm, woken, overridden, early, strict, hush, idle, twice}
use Rattle.reader_examples.specs.Records.{post_record, rearm_record, woken_record, overridden_record, early_record, strict_record, hush_record, idle_record, twice_record}
use Rattle.clocks.specs.Accepted.{Accepted}
use Rattle.clocks.proofs.Contract.{signature, system}
use Rattle.pairing.specs.Channels.{unmatched, right_step}
use Rattle.guarantees_starred.proofs.Opened.{opened_states, opened_pairing, opened}
use Rattle.guarantees_starred.proofs.Posts.{post_keep, post_known, rearm_keep, rearm_known, early_keep, early_known, strict_keep, strict_known, idle_keep, idle_known, twice_known, woken_known, overridden_keep, overridden_known}

-- what is known of two records that are compared, s and u being the bytes of their texts
pub record Pair (s u : List ℕ) (l r : Text) : Type 0 where
  pub left_text : Accepted l
  pub right_text : Accepted r
  pub inputs : (c : ℕ) → Input (signature l) c → Input (signature r) (right_step s l u r c)

abbrev pub left_of : {s u : List ℕ} {l r : Text} → Pair s u l r → FiniteSystem (signature l)
left_of {s} {u} {l} {r} p = system l p.left_text

abbrev pub right_of : {s u : List ℕ} {l r : Text} → Pair s u l r → FiniteSystem (signature l)
right_of {s} {u} {l} {r} p = renumbered (right_step s l u r) p.inputs (system r p.right_text)

-- the channels are equal
pub post_post_equal : unmatched post post_record post post_record ≡ Ok tt
unfolding opened_states opened_pairing
post_post_equal = refl

pub early_post_equal : unmatched early early_record post post_record ≡ Ok tt
unfolding opened_states opened_pairing
early_post_equal = refl

pub idle_post_equal : unmatched idle idle_record post post_record ≡ Ok tt
unfolding opened_states opened_pairing
idle_post_equal = refl

pub post_idle_equal : unmatched post post_record idle idle_record ≡ Ok tt
unfolding opened_states opened_pairing
post_idle_equal = refl

pub post_hush_equal : unmatched post post_record hush hush_record ≡ Ok tt
unfolding opened_states opened_pairing
post_hush_equal = refl

pub rearm_post_equal : unmatched rearm rearm_record post post_record ≡ Ok tt
unfolding opened_states opened_pairing
rearm_post_equal = refl

pub hush_post_equal : unmatched hush hush_record post post_record ≡ Ok tt
unfolding opened_states opened_pairing
hush_post_equal = refl

pub strict_post_equal : unmatched strict strict_record post post_record ≡ Ok tt
unfolding opened_states opened_pairing
strict_post_equal = refl

pub post_strict_equal : unmatched post post_record strict strict_record ≡ Ok tt
unfolding opened_states opened_pairing
post_strict_equal = refl

pub twice_post_equal : unmatched twice twice_record post post_record ≡ Ok tt
unfolding opened_states opened_pairing
twice_post_equal = refl

pub post_twice_equal : unmatched post post_record twice twice_record ≡ Ok tt
unfolding opened_states opened_pairing
post_twice_equal = refl

pub twice_twice_equal : unmatched twice twice_record twice twice_record ≡ Ok tt
unfolding opened_states opened_pairing
twice_twice_equal = refl

pub woken_post_equal : unmatched woken woken_record post post_record ≡ Ok tt
unfolding opened_states opened_pairing
woken_post_equal = refl

pub post_woken_equal : unmatched post post_record woken woken_record ≡ Ok tt
unfolding opened_states opened_pairing
post_woken_equal = refl

pub overridden_woken_equal : unmatched overridden overridden_record woken woken_record ≡ Ok tt
unfolding opened_states opened_pairing
overridden_woken_equal = refl

pub woken_overridden_equal : unmatched woken woken_record overridden overridden_record ≡ Ok tt
unfolding opened_states opened_pairing
woken_overridden_equal = refl

pub post_overridden_equal : unmatched post post_record overridden overridden_record ≡ Ok tt
unfolding opened_states opened_pairing
post_overridden_equal = refl

-- the runs that the search finds
pub post_post_run : (p : Pair post post post_record post_record) → search_run (left_of p) (right_of p) ≡ []
unfolding opened
post_post_run p = search_by (left_of p) (right_of p) post_keep (post_known.safe p.left_text) tt

pub strict_post_run : (p : Pair strict post strict_record post_record) → search_run (left_of p) (right_of p) ≡ []
unfolding opened
strict_post_run p = search_by (left_of p) (right_of p) strict_keep (strict_known.safe p.left_text) tt

pub post_strict_run : (p : Pair post strict post_record strict_record) → search_run (left_of p) (right_of p) ≡ []
unfolding opened
post_strict_run p = search_by (left_of p) (right_of p) post_keep (post_known.safe p.left_text) tt

pub twice_post_run : (p : Pair twice post twice_record post_record) → search_run (left_of p) (right_of p) ≡ []
unfolding opened
twice_post_run p = search_by (left_of p) (right_of p) post_keep (twice_known.safe p.left_text) tt

pub post_twice_run : (p : Pair post twice post_record twice_record) → search_run (left_of p) (right_of p) ≡ []
unfolding opened
post_twice_run p = search_by (left_of p) (right_of p) post_keep (post_known.safe p.left_text) tt

pub early_post_run : (p : Pair early post early_record post_record) → search_run (left_of p) (right_of p)
    ≡ tick ∷ tick ∷ 3 ∷ []
unfolding opened
early_post_run p = search_by (left_of p) (right_of p) early_keep (early_known.safe p.left_text) tt

pub idle_post_run : (p : Pair idle post idle_record post_record) → search_run (left_of p) (right_of p)
    ≡ tick ∷ tick ∷ tick ∷ tick ∷ []
unfolding opened
idle_post_run p = search_by (left_of p) (right_of p) idle_keep (idle_known.safe p.left_text) tt

pub post_idle_run : (p : Pair post idle post_record idle_record) → search_run (left_of p) (right_of p)
    ≡ tick ∷ tick ∷ tick ∷ 3 ∷ []
unfolding opened
post_idle_run p = search_by (left_of p) (right_of p) post_keep (post_known.safe p.left_text) tt

pub post_hush_run : (p : Pair post hush post_record hush_record) → search_run (left_of p) (right_of p)
    ≡ tick ∷ tick ∷ tick ∷ 3 ∷ []
unfolding opened
post_hush_run p = search_by (left_of p) (right_of p) post_keep (post_known.safe p.left_text) tt

pub rearm_post_run : (p : Pair rearm post rearm_record post_record) → search_run (left_of p) (right_of p)
    ≡ tick ∷ tick ∷ tick ∷ 2 ∷ tick ∷ []
unfolding opened
rearm_post_run p = search_by (left_of p) (right_of p) rearm_keep (rearm_known.safe p.left_text) tt

pub woken_post_run : (p : Pair woken post woken_record post_record) → search_run (left_of p) (right_of p)
    ≡ 2 ∷ tick ∷ tick ∷ 3 ∷ []
unfolding opened
woken_post_run p = search_by (left_of p) (right_of p) post_keep (woken_known.safe p.left_text) tt

pub post_woken_run : (p : Pair post woken post_record woken_record) → search_run (left_of p) (right_of p)
    ≡ 2 ∷ tick ∷ tick ∷ tick ∷ []
unfolding opened
post_woken_run p = search_by (left_of p) (right_of p) post_keep (post_known.safe p.left_text) tt

pub overridden_woken_run : (p : Pair overridden woken overridden_record woken_record)
    → search_run (left_of p) (right_of p) ≡ []
unfolding opened
overridden_woken_run p = search_by (left_of p) (right_of p) overridden_keep (overridden_known.safe p.left_text) tt

pub woken_overridden_run : (p : Pair woken overridden woken_record overridden_record)
    → search_run (left_of p) (right_of p) ≡ []
unfolding opened
woken_overridden_run p = search_by (left_of p) (right_of p) post_keep (woken_known.safe p.left_text) tt
