mod Asking
mod Moments
mod Outcomes
mod Parting
mod Seeing
