-- `trial::run` meets its contract. Assumes nothing.
-- the array is lent as the logger's memory: its size is computed, whatever it is
use Rattle.board.specs.Layout.{flash_pages, page_bytes, page_offset, flash_bytes, ram_bytes, ram_from, options_from, memory_bytes}
use Rattle.trial.proofs.Turns.{trial_is}
use Rattle.trial.proofs.run.Goals as goal

pub returns : goal.returns
unfolding memory_bytes options_from ram_from ram_bytes flash_bytes page_offset flash_pages page_bytes
returns c = trial_is _ _ _ _ _ _ _ _ _ _ _ c.equip.ensures c.live-scene.ensures c.survey.ensures
