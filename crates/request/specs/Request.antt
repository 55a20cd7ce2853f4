-- Which request a setup asks for. Document 01, "Events", the table of requests, without its last column; document 02, CR 3. Assumes nothing.
use Rattle.std.specs.Prelude.{Bool, cond, ◌&&◌, true, false, ℕ, eqb, leb}
use Rattle.request.specs.declared.Setup.{Setup}
use Rattle.request.specs.declared.Request.{Request}
use Rattle.request.specs.declared.Request.TheVariants.{Download, Upload, GetStatus, ClearStatus, GetState, Abort, Unknown}

-- "DFU 1.1's wTransferSize is the device's own figure; ours is 2,048" (CR 3): the most of a wLength, the size of the block and reply buffers, the step from block to block
abbrev pub transfer_bytes : ℕ
transfer_bytes = 2048

-- column "Fields" of the other four: wValue 0, and this wLength
abbrev pub asks_of : Setup → ℕ → Bool
asks_of s n = eqb s.value 0 && eqb s.length n

-- column "Fields" of UPLOAD: wLength 1 up to the transfer size
abbrev pub reads_of : Setup → Bool
reads_of s = leb 1 s.length && leb s.length transfer_bytes

-- the rows of type 0x21
unfoldable pub outward_of : Setup → Request
outward_of s =
    cond (eqb s.code 1) (cond (leb s.length transfer_bytes) Download Unknown)
    (cond (eqb s.code 4) (cond (asks_of s 0) ClearStatus Unknown)
    (cond (eqb s.code 6) (cond (asks_of s 0) Abort Unknown) Unknown))

-- the rows of type 0xA1
unfoldable pub inward_of : Setup → Request
inward_of s =
    cond (eqb s.code 2) (cond (reads_of s) Upload Unknown)
    (cond (eqb s.code 3) (cond (asks_of s 6) GetStatus Unknown)
    (cond (eqb s.code 5) (cond (asks_of s 1) GetState Unknown) Unknown))

-- columns "Type, code" and "Fields", and "wIndex is 0"
unfoldable pub request_of : Setup → Request
request_of s = cond (eqb s.index 0) (cond (eqb s.kind 0x21) (outward_of s) (cond (eqb s.kind 0xA1) (inward_of s) Unknown)) Unknown

-- the request is a GETSTATUS
abbrev pub is_get_status : Request → Bool
is_get_status Download = false
is_get_status Upload = false
is_get_status GetStatus = true
is_get_status ClearStatus = false
is_get_status GetState = false
is_get_status Abort = false
is_get_status Unknown = false
