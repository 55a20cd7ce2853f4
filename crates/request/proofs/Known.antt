-- A request that the loader knows is not longer than a transfer, and a DNLOAD brings what it says. Assumes nothing.
use mathlib.Core.Path.{◌≡◌, refl, ap, ◌∙◌, sym}
use mathlib.Core.Bool.{Bool, true, false, cond, false≢true}
use mathlib.Core.Logic.{◌⊎◌, inl, inr}
use Prim.Native.Nat.{ℕ, ◌≤◌}
use native.Mathlib.Omega.{arith}
use lib.Dec.{eqb, leb}
use borrow.Author.Tests.{leb-true, eqb-true}
use Rattle.laws.proofs.Split.{by_bool, and_true}
use Rattle.request.specs.declared.Setup.{Setup}
use Rattle.request.specs.declared.Request.{Request}
use Rattle.request.specs.declared.Request.TheVariants.{Download, Upload, GetStatus, ClearStatus, GetState, Abort, Unknown}
use Rattle.request.specs.Setup.{data_length}
use Rattle.request.specs.Request.{transfer_bytes, asks_of, reads_of, outward_of, inward_of, request_of}

-- Unknown, or short enough
abbrev pub Short : Setup → Request → Type 0
Short s r = (r ≡ Unknown) ⊎ (s.length ≤ transfer_bytes)

-- a request that is granted where its fields are right
granted_short : (s : Setup) (fields : Bool) (r : Request) → (fields ≡ true → s.length ≤ transfer_bytes) → Short s (cond fields r Unknown)
granted_short s true r h = inr (h refl)
granted_short s false r h = inl refl

asked_short : (s : Setup) (n : ℕ) → n ≤ transfer_bytes → asks_of s n ≡ true → s.length ≤ transfer_bytes
asked_short s n h e =
    let l : s.length ≡ n = eqb-true _ _ (and_true (eqb s.value 0) (eqb s.length n) e).1 in
    omega arith

outward_short : (s : Setup) → Short s (outward_of s)
unfolding outward_of
outward_short s =
    by_bool (eqb s.code 1) (λ e. rw e (granted_short s (leb s.length transfer_bytes) _ (λ h. leb-true _ _ h)))
    (λ e.
    by_bool (eqb s.code 4) (λ f. rw (e, f) (granted_short s (asks_of s 0) _ (asked_short s 0 (omega arith))))
    (λ f.
    by_bool (eqb s.code 6) (λ g. rw (e, f, g) (granted_short s (asks_of s 0) _ (asked_short s 0 (omega arith))))
    (λ g. rw (e, f, g) (inl refl))))

inward_short : (s : Setup) → Short s (inward_of s)
unfolding inward_of
inward_short s =
    by_bool (eqb s.code 2) (λ e. rw e (granted_short s (reads_of s) _ (λ h. leb-true _ _ (and_true (leb 1 s.length) (leb s.length transfer_bytes) h).1)))
    (λ e.
    by_bool (eqb s.code 3) (λ f. rw (e, f) (granted_short s (asks_of s 6) _ (asked_short s 6 (omega arith))))
    (λ f.
    by_bool (eqb s.code 5) (λ g. rw (e, f, g) (granted_short s (asks_of s 1) _ (asked_short s 1 (omega arith))))
    (λ g. rw (e, f, g) (inl refl))))

pub known_short : (s : Setup) → Short s (request_of s)
unfolding request_of
known_short s =
    by_bool (eqb s.index 0)
    (λ i.
    by_bool (eqb s.kind 0x21) (λ k. rw (i, k) (outward_short s))
    (λ k. by_bool (eqb s.kind 0xA1) (λ l. rw (i, k, l) (inward_short s)) (λ l. rw (i, k, l) (inl refl))))
    (λ i. rw i (inl refl))

abbrev is_download : Request → Bool
is_download Download = true
is_download Upload = false
is_download GetStatus = false
is_download ClearStatus = false
is_download GetState = false
is_download Abort = false
is_download Unknown = false

granted_other : (fields : Bool) (r : Request) → is_download r ≡ false → is_download (cond fields r Unknown) ≡ false
granted_other true r e = e
granted_other false r e = refl

-- no request that is answered with data is a DNLOAD
inward_other : (s : Setup) → is_download (inward_of s) ≡ false
unfolding inward_of
inward_other s =
    by_bool (eqb s.code 2) (λ a. rw a (granted_other (reads_of s) Upload refl))
    (λ a.
    by_bool (eqb s.code 3) (λ b. rw (a, b) (granted_other (asks_of s 6) GetStatus refl))
    (λ b. by_bool (eqb s.code 5) (λ c. rw (a, b, c) (granted_other (asks_of s 1) GetState refl)) (λ c. rw (a, b, c))))

-- a DNLOAD brings as many bytes as its wLength says
pub download_brings : (s : Setup) → request_of s ≡ Download → data_length s ≡ s.length
unfolding request_of data_length
download_brings s e =
    by_bool (eqb s.index 0)
    (λ i.
    by_bool (eqb s.kind 0x21) (λ k. rw (eqb-true s.kind 0x21 k))
    (λ k.
    by_bool (eqb s.kind 0xA1) (λ l. absurd (false≢true (sym (inward_other s) ∙ ap is_download (rw (i, k, l) at e))))
    (λ l. absurd (false≢true (ap is_download (rw (i, k, l) at e))))))
    (λ i. absurd (false≢true (ap is_download (rw i at e))))
