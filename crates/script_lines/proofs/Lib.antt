pub mod TextLaws
pub mod HearLaws
pub mod EndLaws
pub mod NextLaws
