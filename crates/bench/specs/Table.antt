-- The bench cases marked P. Document 01, "Bench cases"; document 02, CR 3. Assumes nothing.
use Rattle.std.specs.Prelude.{List, [], ◌∷◌, ◌++◌, ℕ, length, replicate}
use Rattle.laws.specs.Bytes.{put, filled}
use Rattle.board.specs.Layout.{defaults}
use Rattle.request.specs.Spelled.{four, downloading, uploading, getting_status, clearing_status}
use Rattle.mode.specs.declared.Mode.{Mode}
use Rattle.mode.specs.declared.Mode.TheVariants.{Idle, DownloadSync, DownloadBusy, UploadIdle, Error, Rebooting}
use Rattle.verdict.specs.declared.Verdict.TheVariants.{End}
use Rattle.bench.specs.Case.{Finding, locate, ask, check, address, state, judgement, Case, ◌⇒◌}

-- a command with an address: "four address bytes, low first"
abbrev pub command : ℕ → ℕ → List ℕ
command code at = downloading 0 (code ∷ four at)

-- erase the page at an address
abbrev pub erase : ℕ → List (List ℕ)
erase at = command 0x41 at ∷ getting_status ∷ []

-- set the pointer to an address, and write bytes there
abbrev pub write : ℕ → List ℕ → List (List ℕ)
write at xs = command 0x21 at ∷ getting_status ∷ getting_status ∷ downloading 2 xs ∷ getting_status ∷ []

-- memory with one byte all over flash and RAM, then the options
abbrev pub memory : ℕ → List ℕ → List ℕ
memory v card = replicate 18432 v ++ card

-- all erased, default options
abbrev pub all_erased : List ℕ
all_erased = memory 0xFF defaults

-- "card byte 8 = 0xFE"
abbrev pub guarded : List ℕ
guarded = memory 0x77 (put 8 (0xFE ∷ []) defaults)

-- a GETSTATUS that ran a command shows status 0 and mode 4
abbrev pub done : Mode → List ℕ → Finding
done mode m = state (1 ∷ 6 ∷ 0 ∷ 100 ∷ 0 ∷ 0 ∷ 4 ∷ 0 ∷ []) 0 mode m

-- and where it failed: the status, and mode 10
abbrev pub failing : ℕ → List ℕ → Finding
failing status m = state (1 ∷ 6 ∷ status ∷ 0 ∷ 0 ∷ 0 ∷ 10 ∷ 0 ∷ []) status Error m

-- a Reply with these bytes
abbrev pub replied : List ℕ → Mode → List ℕ → Finding
replied xs mode m = state (1 ∷ length xs ∷ xs) 0 mode m

-- the answer Accepted
abbrev pub accepted : Mode → List ℕ → Finding
accepted mode m = state (0 ∷ []) 0 mode m

-- a Stall with status 15, which leaves mode 10
abbrev pub stalling : List ℕ → Finding
stalling m = state (2 ∷ []) 15 Error m

-- the nine cases, in the document's order
abbrev pub table : List Case
table =
    -- 1, by CR 3: block 3 of 512 bytes lies 2,048 bytes behind the pointer, written and read
    (locate 3 0x08000000 ⇒ address 0x08000800 ∷
    ask (downloading 3 (replicate 512 0x5A) ∷ getting_status ∷ []) all_erased ⇒ done DownloadBusy (put 0x800 (replicate 512 0x5A) all_erased) ∷
    ask (uploading 3 512 ∷ []) (put 0x800 (replicate 512 0x5A) all_erased) ⇒ replied (replicate 512 0x5A) UploadIdle (put 0x800 (replicate 512 0x5A) all_erased) ∷ []) ∷
    -- 2: the last 2,048 bytes of flash can be written; two bytes further on they cannot
    (ask (write 0x08003800 (replicate 2048 0x5A)) all_erased ⇒ done DownloadBusy (put 0x3800 (replicate 2048 0x5A) all_erased) ∷
    ask (write 0x08003802 (replicate 2048 0x5A)) all_erased ⇒ failing 1 all_erased ∷ []) ∷
    -- 3: one byte to RAM is an error, two are stored
    (ask (write 0x20000000 (0x5A ∷ [])) all_erased ⇒ failing 1 all_erased ∷
    ask (write 0x20000000 (0x5A ∷ 0x5B ∷ [])) all_erased ⇒ done DownloadBusy (put 16384 (0x5A ∷ 0x5B ∷ []) all_erased) ∷ []) ∷
    -- 4: fifteen option bytes are an error; sixteen are stored, and the board reboots
    (ask (write 0x1FFFF800 (replicate 15 0x5A)) all_erased ⇒ failing 1 all_erased ∷
    ask (write 0x1FFFF800 (replicate 16 0x5A)) all_erased ⇒ done Rebooting (put 18432 (replicate 16 0x5A) all_erased) ∷ []) ∷
    -- 5: page 0 is protected: its erase reports no error and changes nothing
    (ask (erase 0x08000000) guarded ⇒ done DownloadBusy guarded ∷ []) ∷
    -- 6: across the border of a protected page, the other part is stored
    (ask (erase 0x08000400 ++ (getting_status ∷ write 0x080003FE (1 ∷ 2 ∷ 3 ∷ 4 ∷ []))) guarded ⇒ done DownloadBusy (put 0x400 (3 ∷ 4 ∷ []) (filled 0x400 1024 0xFF guarded)) ∷ []) ∷
    -- 7: a transfer has 2,048 bytes at most
    (ask (downloading 2 (replicate 2048 0x5A) ∷ []) all_erased ⇒ accepted DownloadSync all_erased ∷
    ask (downloading 2 (replicate 2049 0x5A) ∷ []) all_erased ⇒ stalling all_erased ∷ []) ∷
    -- 8: a job of no events never leaves the loader
    (check [] (0x5A ∷ []) defaults ⇒ judgement (End 1) ∷ []) ∷
    -- 9: CLRSTATUS is for mode 10
    (ask (clearing_status ∷ []) all_erased ⇒ stalling all_erased ∷
    ask (clearing_status ∷ clearing_status ∷ []) all_erased ⇒ accepted Idle all_erased ∷ []) ∷
    []
