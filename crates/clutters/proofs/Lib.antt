-- Lists of sets of which none holds another, in reading order: what lists hold, and the code's steps over plain values.
pub mod Clutters
pub mod Steps
