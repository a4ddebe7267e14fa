use Rattle.xrc_session.proofs.OfCommands.{ending_exactly}
use Rattle.xrc_session.proofs.endings.endings_are_answered_exactly.Goals as goal

pub returns : goal.returns
returns c = λ run s l q r hits more text reply first points number goes leg commanding ending counted names exact.
    ending_exactly run s goes l leg q r hits more commanding ending text reply first points number names counted exact
